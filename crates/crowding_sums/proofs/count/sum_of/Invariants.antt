-- `crowding_sums::count::sum_of` meets its contract. The loop's invariant: the sum and the weights of the nodes that are left are the whole.
-- Assumes nothing.
use Prim.Native.Nat.{◌+◌}
use mathlib.Core.Path.{◌≡◌}
use lib.ListN.{drop}
use Rattle.crowding_sums.specs.Sums.{weigh}
use Rattle.crowding_sums.proofs.count.sum_of.Given as goal

abbrev pub invariant-loop-v : goal.invariant-loop-v
invariant-loop-v l = l.sum + weigh l.weights (drop l.v-index l.nodes) ≡ weigh l.weights l.nodes
