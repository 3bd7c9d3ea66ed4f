-- `crowding_sums::count::count_without_one` meets its contract. The loop's invariant: the sums without a node before i are counted.
-- Assumes nothing.
use Rattle.crowding_sums.proofs.Left.{Left}
use Rattle.crowding_sums.proofs.count.count_without_one.Given as goal

abbrev pub invariant-loop-v : goal.invariant-loop-v
invariant-loop-v l = Left l.weights 0 l.sum 65000 1 l.nodes l.initial.table l.table l.v-index
