-- `crowding_sums::most::most_of_row` meets its contract: in each case as many nodes are left out as d says. Assumes nothing.
use mathlib.Core.Path.{◌∙◌}
use Rattle.crowding_sums.proofs.Turning.{most-whole}
use Rattle.crowding_sums.proofs.most.most_of_row.Goals as goal

pub returns-in-0 : goal.returns-in-0
returns-in-0 c =
    let a = c.args in
    c.cell.ensures ∙ most-whole a.weights.now a.table.now a.d _ a.row.now c.in-0.is ∙ rw c.sum_of-sum.ensures
