-- `rows_text_reader::order::add_order` meets its contract. Assumes nothing.
use Rattle.table_steps.proofs.Head.{room_after}
use Rattle.rows_text_reader.proofs.Ordered.{order-early, order-again, order-count, order-outside, order-added}
use mathlib.Core.Path.{sym, ◌∙◌}
use native.Mathlib.Omega.{arith}
use Rattle.rows_text_reader.proofs.order.add_order.Goals as goal

pub returns-then-r-eq0 : goal.returns-then-r-eq0
returns-then-r-eq0 c = order-early _ _ _ c.requires _ c.if-r-eq0.true

pub returns-then-layers-ne0 : goal.returns-then-layers-ne0
returns-then-layers-ne0 c = order-again _ _ _ c.requires _ c.if-r-eq0.false c.if-layers-ne0.true

pub returns-then-found-ne2 : goal.returns-then-found-ne2
returns-then-found-ne2 c =
    order-count _ _ _ c.requires _ c.if-r-eq0.false c.if-layers-ne0.false c.if-found-ne2.true

pub bounds-numbers-count : goal.bounds-numbers-count
bounds-numbers-count c =
    omega (arith, room_after _ _ _ c.requires, c.if-found-ne2.false, c.requires.room)

pub overflow_add-k : goal.overflow_add-k
overflow_add-k c =
    omega (arith, room_after _ _ _ c.requires, c.if-found-ne2.false, c.requires.room)

pub bounds-numbers-count-2 : goal.bounds-numbers-count-2
bounds-numbers-count-2 c =
    omega (arith, room_after _ _ _ c.requires, c.if-found-ne2.false, c.requires.room)

pub order_taken-requires : goal.order_taken-requires
order_taken-requires c = c.requires.kept.n-most

pub returns-then-not-order_taken : goal.returns-then-not-order_taken
returns-then-not-order_taken c =
    order-outside _ _ _ c.requires _
    c.if-r-eq0.false c.if-layers-ne0.false
    c.if-found-ne2.false
    (sym c.order_taken.ensures ∙ c.if-not-order_taken.true)

pub overflow_add-numbers : goal.overflow_add-numbers
overflow_add-numbers c =
    omega (arith, room_after _ _ _ c.requires, c.if-found-ne2.false, c.requires.room)

pub bounds-numbers-count-3 : goal.bounds-numbers-count-3
bounds-numbers-count-3 c =
    omega (arith, room_after _ _ _ c.requires, c.if-found-ne2.false, c.requires.room)

pub overflow_add-result : goal.overflow_add-result
overflow_add-result c =
    omega (arith, room_after _ _ _ c.requires, c.if-found-ne2.false, c.requires.room)

pub returns : goal.returns
returns c =
    order-added _ _ _ c.requires _
    c.if-r-eq0.false c.if-layers-ne0.false
    c.if-found-ne2.false
    (sym c.order_taken.ensures ∙ c.if-not-order_taken.false)
