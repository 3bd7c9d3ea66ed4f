-- `crowding_pairs::count::count_row` meets its contract. The loop's invariant: the pairs whose first node is before place k are
-- counted. Assumes nothing.
use Rattle.crowding_pairs.proofs.Cells.{Part}
use Rattle.crowding_pairs.proofs.count.count_row.Given as goal

abbrev pub invariant-loop-k : goal.invariant-loop-k
invariant-loop-k l = Part l.row l.initial.table l.table l.k
