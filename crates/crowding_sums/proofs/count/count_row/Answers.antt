-- `crowding_sums::count::count_row` meets its contract: in each case as many nodes are left out as d says. Assumes nothing.
use Rattle.crowding_sums.proofs.Turning.{whole-raised}
use Rattle.crowding_sums.proofs.count.count_row.Goals as goal

pub returns-in-0 : goal.returns-in-0
returns-in-0 c = whole-raised _ _ _ _ c.in-0.is (rw c.sum_of-sum.ensures at c.count_sum.ensures)
