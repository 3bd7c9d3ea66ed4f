-- `crowding_search::long::past_blocks` meets its contract. The loop's invariant: no chain passed is longer than the bound.
-- Assumes nothing.
use Prim.Native.Nat.{◌≤◌, ◌<◌}
use Rattle.crowding.specs.Chains.{ShortFrom}
use Rattle.crowding_search.proofs.long.past_blocks.Given as goal

abbrev pub invariant-loop-end : goal.invariant-loop-end
invariant-loop-end l =
    (l.first < l.end) × ((l.end ≤ l.v) × ShortFrom l.end l.v l.bound l.counts)

abbrev pub decreases-loop-end : goal.decreases-loop-end
decreases-loop-end l = l.end
