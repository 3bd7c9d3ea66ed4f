-- `crowding_search::least::least_along` meets its contract: the rows' nodes are the first level. Assumes nothing.
use native.Mathlib.Omega.{arith}
use Rattle.crowding.proofs.VisitRows.{root-to-link, root-to-visit, root-visited}
use Rattle.crowding_search.proofs.least.least_along.Goals as goal

pub link_rows-requires : goal.link_rows-requires
link_rows-requires c = let p = c.requires in root-to-link p.0 p.1

pub children-requires : goal.children-requires
children-requires c =
    root-to-visit c.requires.0 c.link_rows.ensures c.args.bound c.highest-high.result c.highest-high.ensures c.link_rows.auto.heads
    c.link_rows.auto.counts (omega (arith, c.requires.1, c.link_rows.auto.next))

pub returns : goal.returns
returns c =
    root-visited c.requires.0 c.link_rows.ensures c.children.ensures
