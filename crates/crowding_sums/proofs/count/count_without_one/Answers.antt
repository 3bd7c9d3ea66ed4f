use native.Mathlib.Omega.{arith}
use Rattle.crowding_sums.proofs.Left.{left-start, left-weight, left-fits, last-next, left-all}
use Rattle.crowding_sums.proofs.count.count_without_one.Goals as goal

pub loop-v-init : goal.loop-v-init
loop-v-init c = left-start c.requires

pub weight-requires : goal.weight-requires
weight-requires c =
    omega (arith, c.requires.look.known, c.type_inv.nodes c.loop-v.v-index)

pub overflow_sub-left : goal.overflow_sub-left
overflow_sub-left c =
    omega (arith, c.weight.ensures, left-weight c.loop-v.invariant.turn c.loop-v-test.true)

pub count_sum-requires : goal.count_sum-requires
count_sum-requires c =
    left-fits c.loop-v.invariant c.loop-v-test.true c.requires

pub loop-v-preserved : goal.loop-v-preserved
loop-v-preserved c =
    last-next c.loop-v.invariant c.loop-v-test.true
    (rw c.weight.ensures at c.count_sum.ensures)

pub returns : goal.returns
returns c = left-all c.loop-v.invariant c.loop-v-test.false
