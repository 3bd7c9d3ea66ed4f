-- `table_steps::heads::add_table` meets its contract. Assumes nothing.
use Rattle.table_steps.proofs.Head.{table-again, table-count, table-outside, table_taken, room_after}
use mathlib.Core.Path.{refl, sym, ◌∙◌}
use native.Mathlib.Omega.{arith}
use Rattle.table_steps.proofs.heads.add_table.Goals as goal

pub returns-then-before-ne0 : goal.returns-then-before-ne0
returns-then-before-ne0 c = table-again _ _ _ c.requires _ c.if-before-ne0.true

pub returns-then-found-ne2 : goal.returns-then-found-ne2
returns-then-found-ne2 c = table-count _ _ _ c.requires _ c.if-before-ne0.false c.if-found-ne2.true

pub bounds-numbers-count : goal.bounds-numbers-count
bounds-numbers-count c =
    omega (arith, room_after _ _ _ c.requires, c.if-found-ne2.false, c.requires.room)

pub overflow_add-r : goal.overflow_add-r
overflow_add-r c =
    omega (arith, room_after _ _ _ c.requires, c.if-found-ne2.false, c.requires.room)

pub bounds-numbers-count-2 : goal.bounds-numbers-count-2
bounds-numbers-count-2 c =
    omega (arith, room_after _ _ _ c.requires, c.if-found-ne2.false, c.requires.room)

pub returns-then-not-head_taken : goal.returns-then-not-head_taken
returns-then-not-head_taken c =
    table-outside _ _ _ c.requires _ c.if-before-ne0.false c.if-found-ne2.false (sym c.head_taken.ensures ∙ c.if-not-head_taken.true)

pub overflow_add-numbers : goal.overflow_add-numbers
overflow_add-numbers c =
    omega (arith, room_after _ _ _ c.requires, c.if-found-ne2.false, c.requires.room)

pub bounds-numbers-count-3 : goal.bounds-numbers-count-3
bounds-numbers-count-3 c =
    omega (arith, room_after _ _ _ c.requires, c.if-found-ne2.false, c.requires.room)

pub overflow_add-result : goal.overflow_add-result
overflow_add-result c =
    omega (arith, room_after _ _ _ c.requires, c.if-found-ne2.false, c.requires.room)

pub returns : goal.returns
returns c =
    table_taken _ _ _ c.requires _ c.if-before-ne0.false c.if-found-ne2.false refl refl (sym c.head_taken.ensures ∙ c.if-not-head_taken.false)
