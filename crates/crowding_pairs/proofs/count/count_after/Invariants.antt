-- `crowding_pairs::count::count_after` meets its contract. The loop's invariant: the pairs of the nodes so far are counted. Assumes
-- nothing.
use Rattle.crowding_pairs.proofs.Cells.{After}
use Rattle.crowding_pairs.proofs.count.count_after.Given as goal

abbrev pub invariant-loop-node : goal.invariant-loop-node
invariant-loop-node l = After l.low l.nodes l.initial.table l.table l.node-index
