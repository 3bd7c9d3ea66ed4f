-- `rows_code::sixteen::all_below` meets its contract. The loop's invariant: the answer is that so far, and the test of the bytes
-- not yet looked at. Assumes nothing.
use Prim.Native.Nat.{◌+◌}
use mathlib.Core.Path.{◌≡◌}
use mathlib.Core.Bool.{◌&&◌}
use lib.ListN.{drop}
use Rattle.rows_code.specs.Marks.{below_next}
use Rattle.rows_code.proofs.sixteen.all_below.Given as goal

abbrev pub invariant-loop-i : goal.invariant-loop-i
invariant-loop-i l = below_next l.top l.rows l.at l.marks ≡ (l.fine && below_next l.top l.rows (l.at + l.i) (drop l.i l.marks))
