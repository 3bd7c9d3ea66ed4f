-- `crowding_search::long::next_long` meets its contract. The loop's invariant: no chain passed is longer than the bound.
-- Assumes nothing.
use Prim.Native.Nat.{◌≤◌}
use Rattle.crowding.specs.Chains.{ShortFrom}
use Rattle.crowding_search.proofs.long.next_long.Given as goal

abbrev pub invariant-loop-node : goal.invariant-loop-node
invariant-loop-node l =
    (l.node ≤ l.v) × ShortFrom l.node l.v l.bound l.counts

abbrev pub decreases-loop-node : goal.decreases-loop-node
decreases-loop-node l = l.node
