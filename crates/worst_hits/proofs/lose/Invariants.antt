-- `worst_hits::lose` meets its contract. The loop's invariant: those of the records seen that reach s are counted.
-- Assumes nothing.
use mathlib.Core.Path.{◌≡◌}
use Rattle.worst.specs.Records.{lost_to}
use Rattle.worst_hits.proofs.lose.Given as goal

abbrev pub invariant-loop-seen : goal.invariant-loop-seen
invariant-loop-seen l = l.lost ≡ lost_to l.s l.index l.hits l.from l.seen
