-- `rows_code::bad_row` meets its contract. The loop's invariant: the first bad row is the first bad one of the rows from row j on.
-- Assumes nothing.
use mathlib.Core.Path.{◌≡◌}
use Rattle.packing.specs.Rows.{rows_at, first_bad}
use Rattle.rows_code.proofs.FirstBad.{bad_from}
use Rattle.rows_code.proofs.bad_row.Given as goal

abbrev pub invariant-loop-j : goal.invariant-loop-j
invariant-loop-j l = first_bad l.n (rows_at l.r l.c l.rows) ≡ bad_from l.n l.r l.c l.rows l.j
