-- `rows_load::ordered::load_of` meets its contract. The loop's invariant: the first bad row is the first bad one of the rows from row j
-- on, and the bytes before it are counted. Assumes nothing.
use Prim.Native.Nat.{◌*◌}
use mathlib.Core.Path.{◌≡◌}
use lib.ListN.{length}
use Rattle.packing.specs.Rows.{rows_at, first_bad}
use Rattle.rows_code.proofs.FirstBad.{bad_from}
use Rattle.rows_load.specs.Counts.{Counted}
use Rattle.rows_load.proofs.ordered.load_of.Given as goal

abbrev pub invariant-loop-j : goal.invariant-loop-j
invariant-loop-j l =
    (first_bad l.n (rows_at l.r l.c l.rows) ≡ bad_from l.n l.r l.c l.rows l.j) × (length l.counts ≡ 256) × Counted l.rows (l.j * l.r) l.counts
