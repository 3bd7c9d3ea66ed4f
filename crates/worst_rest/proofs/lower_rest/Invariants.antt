-- `worst_rest::lower_rest` meets its contract. The loop's invariant: the hits are those of the first `place` nodes of the set.
-- Assumes nothing.
use Prim.Native.Nat.{◌≤◌}
use lib.ListN.{length, take}
use Rattle.worst.specs.Records.{HitsOf}
use Rattle.worst_rest.proofs.lower_rest.Given as goal

abbrev pub invariant-loop-place : goal.invariant-loop-place
invariant-loop-place l =
    (l.chosen ≤ l.place) × HitsOf l.index (take l.place l.set) (length l.initial.hits) l.hits
