-- `dark_code::naming::marked_row` meets its contract. The loop's invariant: the first row with a marked node is the first one of the
-- rows from row j on, which begin at byte `at`. Assumes nothing.
use Prim.Native.Nat.{◌*◌, ◌≤◌}
use mathlib.Core.Path.{◌≡◌}
use mathlib.Core.Bool.{false}
use lib.ListN.{get_or}
use Rattle.lists.specs.Lists.{any, first_where}
use Rattle.packing.specs.Rows.{rows_at}
use Rattle.dark_code.proofs.naming.FirstFound.{found_from}
use Rattle.dark_code.proofs.naming.marked_row.Given as goal

abbrev pub invariant-loop-j : goal.invariant-loop-j
invariant-loop-j l =
    (l.j ≤ l.c) × (l.at ≡ l.j * l.r)
    × (first_where (any (λ v. get_or l.marks v false)) (rows_at l.r l.c l.rows) ≡ found_from (any (λ v. get_or l.marks v false)) l.r l.c l.rows l.j l.at)
