use Prim.Native.Nat.{◌-◌, ◌<◌}
use Rattle.crowding.proofs.VisitChain.{chain-inside, chain-to-count, chain-to-link, node-above, level-to-visit}
use Rattle.crowding_most.proofs.Grow.{grown-last, grown-one, grown-short, grown-level}
use Rattle.crowding_most.proofs.Growing.{growing-start, growing-end, growing-skip, growing-chain, growing-next}
use lib.ListN.{get_or}
use native.Mathlib.Omega.{arith}
use Rattle.crowding_most.proofs.visits.+children_visit.Goals as goal

pub children-loop-v-init : goal.children-loop-v-init
children-loop-v-init t c = growing-start c.requires (omega arith)

pub children-overflow_cast-count : goal.children-overflow_cast-count
children-overflow_cast-count t c = omega (arith, c.type_inv.counts (c.loop-v.v - 1))

pub children-loop-v-preserved-then-count-most : goal.children-loop-v-preserved-then-count-most
children-loop-v-preserved-then-count-most t c =
    growing-skip c.requires c.loop-v.invariant ((let some-here : 0 < c.loop-v.v = omega (arith, c.loop-v-test.true) in some-here)) (omega (arith, c.if-count-most.true))

pub children-visit-most-requires : goal.children-visit-most-requires
children-visit-most-requires t c =
    (omega (arith, c.decreases), growing-chain c.requires c.loop-v.invariant ((let some-here : 0 < c.loop-v.v = omega (arith, c.loop-v-test.true) in some-here)) ((let many-here : c.loop-v.most < get_or c.args.counts.now (c.loop-v.v - 1) 0 = omega (arith, c.if-count-most.false) in many-here)))

pub children-loop-v-preserved : goal.children-loop-v-preserved
children-loop-v-preserved t c =
    growing-next c.requires c.loop-v.invariant ((let some-here : 0 < c.loop-v.v = omega (arith, c.loop-v-test.true) in some-here)) ((let many-here : c.loop-v.most < get_or c.args.counts.now (c.loop-v.v - 1) 0 = omega (arith, c.if-count-most.false) in many-here)) c.visit-most.ensures
    c.visit-most.auto.next

pub children-shape_of-next : goal.children-shape_of-next
children-shape_of-next t c = c.loop-v.invariant.walk.all-next

pub children-returns : goal.children-returns
children-returns t c = growing-end c.requires c.loop-v.invariant c.loop-v-test.false

pub visit-returns-then-w-eq0 : goal.visit-returns-then-w-eq0
visit-returns-then-w-eq0 t c = rw c.from.ensures (grown-last c.requires c.if-w-eq0.true)

pub visit-most_after-requires : goal.visit-most_after-requires
visit-most_after-requires t c = chain-to-count c.requires

pub visit-returns-then-w-eq1 : goal.visit-returns-then-w-eq1
visit-returns-then-w-eq1 t c =
    grown-one c.requires c.most_after.result c.max.result c.if-w-eq1.true
    c.most_after.ensures c.max.ensures

pub visit-link_tails-longest-requires : goal.visit-link_tails-longest-requires
visit-link_tails-longest-requires t c =
    chain-to-link c.requires ((let some-here : 0 < c.args.search.level.w = omega (arith, c.if-w-eq0.false) in some-here))

pub visit-returns-then-longest-bound : goal.visit-returns-then-longest-bound
visit-returns-then-longest-bound t c =
    grown-short c.requires ((let some-here : 0 < c.args.search.level.w = omega (arith, c.if-w-eq0.false) in some-here)) c.link_tails-longest.ensures c.if-longest-bound.true

pub visit-bounds-rows-head : goal.visit-bounds-rows-head
visit-bounds-rows-head t c = chain-inside c.requires

pub visit-overflow_add-above : goal.visit-overflow_add-above
visit-overflow_add-above t c =
    omega (
      arith,
      node-above c.requires ((let some-here : 0 < c.args.search.level.w = omega (arith, c.if-w-eq0.false) in some-here)) c.link_tails-longest.ensures
          c.link_tails-longest.auto.counts c.if-longest-bound.false,
    )

pub visit-children-requires : goal.visit-children-requires
visit-children-requires t c = (
  omega (arith, c.decreases, (let some-here : 0 < c.args.search.level.w = omega (arith, c.if-w-eq0.false) in some-here)),
  level-to-visit c.requires ((let some-here : 0 < c.args.search.level.w = omega (arith, c.if-w-eq0.false) in some-here)) c.link_tails-longest.ensures c.link_tails-longest.auto.heads c.link_tails-longest.auto.counts c.link_tails-longest.auto.next,
)

pub visit-returns : goal.visit-returns
visit-returns t c =
    grown-level c.requires ((let some-here : 0 < c.args.search.level.w = omega (arith, c.if-w-eq0.false) in some-here)) c.link_tails-longest.ensures c.children.ensures
