-- `table_steps::heads::add_out` meets its contract. Assumes nothing.
use Rattle.table_steps.proofs.Head.{out-early, out-outside, out-taken, room_after}
use mathlib.Core.Path.{sym, ◌∙◌}
use native.Mathlib.Omega.{arith}
use Rattle.table_steps.proofs.heads.add_out.Goals as goal

pub returns-then-count-ne4 : goal.returns-then-count-ne4
returns-then-count-ne4 c = out-early _ _ _ c.requires _ c.if-count-ne4.true

pub overflow_add-end : goal.overflow_add-end
overflow_add-end c = omega (arith, room_after _ _ _ c.requires, c.if-count-ne4.false, c.requires.room)

pub slice_bounds-in_order-start : goal.slice_bounds-in_order-start
slice_bounds-in_order-start c =
    omega (arith, room_after _ _ _ c.requires, c.if-count-ne4.false, c.requires.room)

pub slice_bounds-in_order-end : goal.slice_bounds-in_order-end
slice_bounds-in_order-end c =
    omega (arith, room_after _ _ _ c.requires, c.if-count-ne4.false, c.requires.room)

pub returns-then-not-in_order : goal.returns-then-not-in_order
returns-then-not-in_order c =
    out-outside _ _ _ c.requires _ c.if-count-ne4.false (sym c.in_order.ensures ∙ c.if-not-in_order.true)

pub bounds-numbers-3 : goal.bounds-numbers-3
bounds-numbers-3 c =
    omega (arith, room_after _ _ _ c.requires, c.if-count-ne4.false, c.requires.room)

pub returns : goal.returns
returns c =
    out-taken _ _ _ c.requires _ c.if-count-ne4.false (sym c.in_order.ensures ∙ c.if-not-in_order.false)
