-- `rows_code::sixteen::past_sixteens` meets its contract. The loop's invariant: the j rows that end at byte `at` are in order.
-- Assumes nothing.
use Prim.Native.Nat.{◌*◌, ◌-◌, ◌≤◌}
use mathlib.Core.Path.{◌≡◌}
use lib.Dec.{T}
use Rattle.lists.specs.Lists.{All}
use Rattle.packing.specs.Rows.{is_in_order, rows_at}
use Rattle.rows_code.proofs.sixteen.past_sixteens.Given as goal

abbrev pub invariant-loop-j : goal.invariant-loop-j
invariant-loop-j l =
    (l.j ≤ l.c) × (l.at ≡ l.j * l.r) × All (λ row. T (is_in_order l.n row)) (rows_at l.r l.j l.rows)

abbrev pub decreases-loop-j : goal.decreases-loop-j
decreases-loop-j l = l.c - l.j
