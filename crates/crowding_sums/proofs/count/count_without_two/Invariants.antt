-- `crowding_sums::count::count_without_two` meets its contract. The loop's invariant: the sums without two nodes are counted, of which the
-- first is before i. Assumes nothing.
use Rattle.crowding_sums.proofs.Left.{Left}
use Rattle.crowding_sums.proofs.count.count_without_two.Given as goal

abbrev pub invariant-loop-i : goal.invariant-loop-i
invariant-loop-i l = Left l.weights 1 l.sum 60000 5 l.nodes l.initial.table l.table l.i
