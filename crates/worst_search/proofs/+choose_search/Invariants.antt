-- What `worst_search::choose` needs, where `search` holds for smaller measures. Assumes nothing.
-- What `worst_search::search` needs, where `choose` holds for smaller measures. The loop's invariant: what is found from node v on is
-- what is to be found. Assumes nothing.
use Prim.Native.Nat.{◌+◌, ◌*◌, ◌-◌, ◌≤◌}
use Rattle.worst.proofs.Going.{Going}
use Rattle.worst_search.proofs.+choose_search.Given as goal

abbrev pub invariant-search-loop-v : goal.invariant-search-loop-v
invariant-search-loop-v l =
    Going l.search l.index l.initial.hits l.initial.set l.initial.out l.v l.least l.hits l.set l.out

-- a node is chosen before the search goes on to the next one
abbrev pub decreases-choose : goal.decreases-choose
decreases-choose l = 2 * (l.search.n - l.search.next.0)

abbrev pub decreases-search : goal.decreases-search
decreases-search l = 2 * (l.search.n - l.search.next.0) + 1
