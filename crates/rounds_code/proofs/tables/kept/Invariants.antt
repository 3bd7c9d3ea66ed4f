-- `rounds_code::tables::kept` meets its contract. The loop's invariant: the replicas on failed nodes among the first i are counted.
-- Assumes nothing.
use mathlib.Core.Path.{◌≡◌}
use Rattle.rounds.proofs.Listing.{hits_to}
use Rattle.rounds_code.proofs.tables.kept.Given as goal

abbrev pub invariant-loop-v : goal.invariant-loop-v
invariant-loop-v l = l.hit ≡ hits_to l.state l.row l.v-index
