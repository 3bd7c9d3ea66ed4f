-- `worst_rest::raise_rest` meets its contract. The loop's invariant: the first `place` nodes of the set are chosen.
-- Assumes nothing.
use Prim.Native.Nat.{◌+◌, ◌-◌}
use Rattle.worst.proofs.Rest.{Choosing}
use Rattle.worst_rest.proofs.raise_rest.Given as goal

abbrev pub invariant-loop-place : goal.invariant-loop-place
invariant-loop-place l =
    Choosing l.search l.index l.initial.hits l.initial.set l.place (l.search.next.0 + (l.place - l.search.chosen)) l.usable l.hits l.set
