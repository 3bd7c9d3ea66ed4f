-- `worst_hits::lower` meets its contract. The loop's invariant: the hits of the first `lowered` records are lowered. Assumes nothing.
use mathlib.Core.Path.{◌≡◌}
use Rattle.worst.specs.Records.{lowered_to}
use Rattle.worst_hits.proofs.lower.Given as goal

abbrev pub invariant-loop-lowered : goal.invariant-loop-lowered
invariant-loop-lowered l = l.hits ≡ lowered_to l.index l.initial.hits l.from l.lowered
