-- `planner_writer::head::write_own` meets its contract: the first numbers of the head's array are written. Assumes nothing.
use Prim.Native.Nat.{ℕ, ◌+◌, ◌*◌, ◌-◌}
use mathlib.Core.Path.{◌≡◌, ◌∙◌, ap}
use mathlib.Core.List.{List}
use lib.ListN.{take}
use Rattle.layers.specs.declared.LayerHead.{LayerHead}
use Rattle.placement.specs.declared.Order.{Order}
use Rattle.planner.specs.Writing.{own_numbers}
use Rattle.planner_writer.proofs.head.Numbers.{own-taken}
use Rattle.planner_writer.proofs.head.write_own.Goals as goal

-- the numbers that are lent, where an array has them
lent : (order : Order) (figure : ℕ) (heads : List LayerHead) (s : ℕ) {head : List ℕ} → head ≡ own_numbers order figure heads
    → take (4 + 2 * s - 0) head ≡ own_numbers order figure (take s heads)
lent order figure heads s e = ap (λ (z : List ℕ). take (4 + 2 * s - 0) z) e ∙ own-taken order figure heads s

pub write_numbers-requires : goal.write_numbers-requires
write_numbers-requires c =
    let e = lent c.args.order c.args.figure c.args.heads c.args.order.s c.own_numbers-head.ensures in
    record { all = rw e c.requires.all; numbers_in_bounds = rw e c.requires.heads_in_bounds }

pub returns : goal.returns
returns c =
    rw (lent c.args.order c.args.figure c.args.heads c.args.order.s c.own_numbers-head.ensures) at c.write_numbers.ensures
