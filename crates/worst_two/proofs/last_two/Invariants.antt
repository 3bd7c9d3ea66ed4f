-- `worst_two::last_two` meets its contract. The loop's invariant: what is found from node v on is what is to be found, and past the
-- last node but one it is found. Assumes nothing.
use Prim.Native.Nat.{◌+◌, ◌≤◌, ◌<◌}
use Rattle.worst.specs.Searches.{Searched}
use Rattle.worst.proofs.Going.{Going}
use Rattle.worst_two.proofs.last_two.Given as goal

abbrev pub invariant-loop-v : goal.invariant-loop-v
invariant-loop-v l =
    (l.v + 1 < l.n → Going l.search l.index l.initial.hits l.initial.set l.initial.out l.v l.least l.hits l.set l.out)
    × (l.n ≤ l.v + 1 → Searched l.search l.index l.initial.hits l.initial.set l.initial.out l.hits l.set l.out l.least)
