use Prim.Native.Nat.{◌<◌}
use Rattle.crowding.proofs.VisitChain.{row-some, chain-inside, chain-entries, visited-last, chain-to-count, visited-few, chain-to-link, visited-short, node-above, level-to-visit, visited-level}
use Rattle.crowding.proofs.VisitLevel.{visiting-start, visiting-end, visiting-skip, visiting-chain, visiting-next}
use lib.ListN.{get_or}
use native.Mathlib.Omega.{arith}
use Rattle.crowding_search.proofs.visits.+children_visit.Goals as goal

pub children-loop-v-init : goal.children-loop-v-init
children-loop-v-init t c = visiting-start c.requires (omega arith)

pub children-overflow_cast-count : goal.children-overflow_cast-count
children-overflow_cast-count t c = omega (arith, c.type_inv.counts c.next_long-v.result)

pub children-loop-v-preserved-then-count-bound : goal.children-loop-v-preserved-then-count-bound
children-loop-v-preserved-then-count-bound t c =
    visiting-skip c.requires c.loop-v.invariant c.next_long-v.ensures.upper_bound c.next_long-v.ensures.short_from (omega (arith, c.if-count-bound.true))

pub children-visit-found-requires : goal.children-visit-found-requires
children-visit-found-requires t c = (
  omega (arith, c.decreases),
  visiting-chain c.requires c.loop-v.invariant c.next_long-v.ensures.upper_bound c.next_long-v.ensures.short_from ((let many-here : c.args.search.bound
      < get_or c.args.counts.now c.next_long-v.result 0 = omega (arith, c.if-count-bound.false) in many-here)),
)

pub children-loop-v-preserved : goal.children-loop-v-preserved
children-loop-v-preserved t c =
    visiting-next c.requires c.loop-v.invariant c.next_long-v.ensures.upper_bound c.next_long-v.ensures.short_from ((let many-here : c.args.search.bound
    < get_or c.args.counts.now c.next_long-v.result 0 = omega (arith, c.if-count-bound.false) in many-here)) c.visit-found.ensures
    c.visit-found.auto.next

pub children-shape_of-next : goal.children-shape_of-next
children-shape_of-next t c = c.loop-v.invariant.walk.all-next

pub children-returns : goal.children-returns
children-returns t c = visiting-end c.requires c.loop-v.invariant c.loop-v-test.false

pub visit-lowest-requires : goal.visit-lowest-requires
visit-lowest-requires t c =
    let pre = c.requires in
    (row-some pre, chain-entries pre)

pub visit-returns-then-w-eq0 : goal.visit-returns-then-w-eq0
visit-returns-then-w-eq0 t c =
    visited-last c.requires c.if-w-eq0.true c.lowest.ensures

pub visit-most_after-requires : goal.visit-most_after-requires
visit-most_after-requires t c = chain-to-count c.requires

pub visit-returns-then-most_after-bound : goal.visit-returns-then-most_after-bound
visit-returns-then-most_after-bound t c =
    visited-few c.requires ((let some-here : 0 < c.args.search.level.w = omega (arith, c.if-w-eq0.false) in some-here)) c.most_after.result c.most_after.ensures c.if-most_after-bound.true

pub visit-link_tails-most-requires : goal.visit-link_tails-most-requires
visit-link_tails-most-requires t c =
    chain-to-link c.requires ((let some-here : 0 < c.args.search.level.w = omega (arith, c.if-w-eq0.false) in some-here))

pub visit-returns-then-most-bound : goal.visit-returns-then-most-bound
visit-returns-then-most-bound t c =
    visited-short c.requires ((let some-here : 0 < c.args.search.level.w = omega (arith, c.if-w-eq0.false) in some-here)) c.link_tails-most.ensures c.if-most-bound.true

pub visit-bounds-rows-head : goal.visit-bounds-rows-head
visit-bounds-rows-head t c = chain-inside c.requires

pub visit-overflow_add-above : goal.visit-overflow_add-above
visit-overflow_add-above t c =
    omega (
      arith,
      node-above c.requires ((let some-here : 0 < c.args.search.level.w = omega (arith, c.if-w-eq0.false) in some-here)) c.link_tails-most.ensures c.link_tails-most.auto.counts
          c.if-most-bound.false,
    )

pub visit-children-requires : goal.visit-children-requires
visit-children-requires t c = (
  omega (arith, c.decreases, (let some-here : 0 < c.args.search.level.w = omega (arith, c.if-w-eq0.false) in some-here)),
  level-to-visit c.requires ((let some-here : 0 < c.args.search.level.w = omega (arith, c.if-w-eq0.false) in some-here)) c.link_tails-most.ensures c.link_tails-most.auto.heads c.link_tails-most.auto.counts c.link_tails-most.auto.next,
)

pub visit-returns : goal.visit-returns
visit-returns t c =
    visited-level c.requires ((let some-here : 0 < c.args.search.level.w = omega (arith, c.if-w-eq0.false) in some-here)) c.link_tails-most.ensures c.children.ensures
