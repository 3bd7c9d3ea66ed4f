-- What `crowding_most::visits::children` needs, where `visit` holds for smaller measures. Assumes nothing.
-- What `crowding_most::visits::visit` needs, where `children` holds for smaller measures. Assumes nothing.
use Prim.Native.Nat.{◌+◌, ◌*◌}
use Rattle.crowding_most.proofs.Growing.{Growing}
use Rattle.crowding_most.proofs.visits.+children_visit.Given as goal

abbrev pub invariant-children-loop-v : goal.invariant-children-loop-v
invariant-children-loop-v l = Growing l.rows l.search l.heads l.counts l.initial.next l.next l.v l.most

abbrev pub decreases-children-loop-v : goal.decreases-children-loop-v
decreases-children-loop-v l = l.v

-- a level below is one smaller, and a chain of a level comes before its level
abbrev pub decreases-children : goal.decreases-children
decreases-children l = 2 * l.search.level.w + 1

abbrev pub decreases-visit : goal.decreases-visit
decreases-visit l = 2 * l.search.level.w
