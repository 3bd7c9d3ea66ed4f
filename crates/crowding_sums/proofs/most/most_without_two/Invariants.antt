-- `crowding_sums::most::most_without_two` meets its contract. The loop's invariant: of the sums without two nodes, of which the first is
-- before i, one comes `most` times, and none more often. Assumes nothing.
use Rattle.crowding_sums.proofs.Left.{Most}
use Rattle.crowding_sums.proofs.most.most_without_two.Given as goal

abbrev pub invariant-loop-i : goal.invariant-loop-i
invariant-loop-i l = Most l.weights l.table 1 l.sum l.nodes l.most l.i
