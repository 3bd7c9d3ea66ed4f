-- `crowding_sums::most::most_without_one` meets its contract. The loop's invariant: of the sums without a node before i one comes `most`
-- times, and none more often. Assumes nothing.
use Rattle.crowding_sums.proofs.Left.{Most}
use Rattle.crowding_sums.proofs.most.most_without_one.Given as goal

abbrev pub invariant-loop-v : goal.invariant-loop-v
invariant-loop-v l = Most l.weights l.table 0 l.sum l.nodes l.most l.v-index
