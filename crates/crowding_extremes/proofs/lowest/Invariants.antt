-- `crowding_extremes::lowest` meets its contract: the rest of the chain from the present least row number gives the
-- answer. Assumes nothing.
use Prim.Native.Nat.{◌<◌, ◌-◌}
use mathlib.Core.Path.{◌≡◌}
use lib.ListN.{length}
use Rattle.lists.specs.Lists.{All}
use Rattle.crowding.specs.Chains.{follow, lowest_at}
use Rattle.crowding_extremes.proofs.lowest.Given as goal

abbrev pub invariant-loop : goal.invariant-loop
invariant-loop l =
    All (λ q. q < length l.next) (follow (l.end - l.counter) l.next l.p) × (lowest_at l.r l.low (follow (l.end - l.counter) l.next l.p) ≡ lowest_at l.r l.fn.least.0 (follow l.fn.chain.count l.next l.fn.chain.head))
