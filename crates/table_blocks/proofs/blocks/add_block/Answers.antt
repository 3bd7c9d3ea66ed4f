-- `table_blocks::blocks::add_block` meets its contract. Assumes nothing.
use Rattle.table_steps.proofs.Head.{room_after}
use Rattle.table_blocks.proofs.Block.{block-early, block-count, block-many, block-bad, block-stored, room-rows, room-lines, some_number, nodes-bytes, m-fits}
use mathlib.Core.Path.{sym, ◌∙◌}
use native.Mathlib.Omega.{arith}
use Rattle.table_blocks.proofs.blocks.add_block.Goals as goal

pub returns-then-layers-eq0 : goal.returns-then-layers-eq0
returns-then-layers-eq0 c =
    block-early _ _ _ _ _ c.requires.finds c.requires.room c.args.line c.if-layers-eq0.true

pub returns-then-found-r : goal.returns-then-found-r
returns-then-found-r c =
    block-count _ _ _ _ _ c.requires.finds c.requires.room c.args.line c.if-layers-eq0.false c.if-found-r.true

pub returns-then-blocks-ge4096 : goal.returns-then-blocks-ge4096
returns-then-blocks-ge4096 c =
    block-many _ _ _ _ _ c.requires.finds c.requires.room c.args.line c.if-layers-eq0.false c.if-found-r.false c.if-blocks-ge4096.true

pub overflow_add-end : goal.overflow_add-end
overflow_add-end c =
    omega (arith, room_after _ _ _ c.requires.finds, c.requires.finds.room)

pub slice_bounds-in_order-start : goal.slice_bounds-in_order-start
slice_bounds-in_order-start c =
    omega (arith, room_after _ _ _ c.requires.finds, c.requires.finds.room)

pub slice_bounds-in_order-end : goal.slice_bounds-in_order-end
slice_bounds-in_order-end c =
    omega (arith, room_after _ _ _ c.requires.finds, c.requires.finds.room)

pub returns-then-not-in_order : goal.returns-then-not-in_order
returns-then-not-in_order c =
    block-bad _ _ _ _ _ c.requires.finds c.requires.room c.args.line c.if-layers-eq0.false c.if-found-r.false (omega (arith, c.if-blocks-ge4096.false)) (sym c.in_order.ensures ∙ c.if-not-in_order.true)

pub slice_bounds-put_nodes-count : goal.slice_bounds-put_nodes-count
slice_bounds-put_nodes-count c =
    omega (arith, room-rows _ _ _ _ _ c.requires.finds c.requires.room c.args.line c.if-layers-eq0.false c.if-found-r.false (omega (arith, c.if-blocks-ge4096.false)))

pub slice_bounds-put_nodes-start : goal.slice_bounds-put_nodes-start
slice_bounds-put_nodes-start c =
    omega (arith, room-rows _ _ _ _ _ c.requires.finds c.requires.room c.args.line c.if-layers-eq0.false c.if-found-r.false (omega (arith, c.if-blocks-ge4096.false)))

pub slice_bounds-put_nodes-end : goal.slice_bounds-put_nodes-end
slice_bounds-put_nodes-end c =
    omega (arith, room-rows _ _ _ _ _ c.requires.finds c.requires.room c.args.line c.if-layers-eq0.false c.if-found-r.false (omega (arith, c.if-blocks-ge4096.false)))

pub slice_bounds-put_nodes-start-2 : goal.slice_bounds-put_nodes-start-2
slice_bounds-put_nodes-start-2 c =
    omega (arith, room_after _ _ _ c.requires.finds, c.requires.finds.room)

pub slice_bounds-put_nodes-end-2 : goal.slice_bounds-put_nodes-end-2
slice_bounds-put_nodes-end-2 c =
    omega (arith, room_after _ _ _ c.requires.finds, c.requires.finds.room)

pub put_nodes-requires : goal.put_nodes-requires
put_nodes-requires c =
    record { nodes_in_bounds = omega (arith, room-rows _ _ _ _ _ c.requires.finds c.requires.room c.args.line c.if-layers-eq0.false c.if-found-r.false (omega (arith, c.if-blocks-ge4096.false))); all = nodes-bytes _ _ _ _ _ c.requires.finds c.requires.room c.args.line c.if-layers-eq0.false c.if-found-r.false (omega (arith, c.if-blocks-ge4096.false)) (sym c.in_order.ensures ∙ c.if-not-in_order.false) }

pub bounds-lines-blocks : goal.bounds-lines-blocks
bounds-lines-blocks c =
    room-lines _ _ _ _ _ c.requires.finds c.requires.room c.args.line c.if-layers-eq0.false c.if-found-r.false (omega (arith, c.if-blocks-ge4096.false))

pub overflow_sub-last : goal.overflow_sub-last
overflow_sub-last c =
    some_number _ _ _ _ _ c.requires.finds c.requires.room c.args.line c.if-layers-eq0.false c.if-found-r.false (omega (arith, c.if-blocks-ge4096.false))

pub bounds-numbers-last : goal.bounds-numbers-last
bounds-numbers-last c =
    omega (arith, room_after _ _ _ c.requires.finds)

pub overflow_add-numbers : goal.overflow_add-numbers
overflow_add-numbers c =
    omega (arith, m-fits _ _ _ _ _ c.requires.finds c.requires.room c.args.line c.if-layers-eq0.false c.if-found-r.false (omega (arith, c.if-blocks-ge4096.false)) (sym c.in_order.ensures ∙ c.if-not-in_order.false))

pub bounds-numbers-last-2 : goal.bounds-numbers-last-2
bounds-numbers-last-2 c =
    omega (arith, room_after _ _ _ c.requires.finds)

pub overflow_add-result : goal.overflow_add-result
overflow_add-result c = omega (arith, c.if-blocks-ge4096.false)

pub overflow_add-result-2 : goal.overflow_add-result-2
overflow_add-result-2 c =
    omega (arith, c.requires.finds.kept.place-most, c.requires.finds.kept.r-most, c.if-blocks-ge4096.false, c.if-found-r.false)

pub returns : goal.returns
returns c =
    block-stored _ _ _ _ _ c.requires.finds c.requires.room c.args.line c.if-layers-eq0.false c.if-found-r.false (omega (arith, c.if-blocks-ge4096.false)) (sym c.in_order.ensures ∙ c.if-not-in_order.false) c.put_nodes.ensures
