-- `rounds_code::tables::usable_in` meets its contract. The loop's invariant: the usable ones of the first j rows are counted.
-- Assumes nothing.
use mathlib.Core.Path.{◌≡◌}
use Rattle.rounds.proofs.Listing.{usable_to}
use Rattle.rounds_code.proofs.tables.usable_in.Given as goal

abbrev pub invariant-loop-j : goal.invariant-loop-j
invariant-loop-j l = l.usable ≡ usable_to l.rows l.r l.s l.state l.j
