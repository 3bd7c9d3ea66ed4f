use native.Mathlib.Omega.{arith}
use Rattle.crowding_sums.proofs.Left.{most-start, left-weight, most-one, most-all}
use Rattle.crowding_sums.proofs.most.most_without_one.Goals as goal

pub loop-v-init : goal.loop-v-init
loop-v-init c = most-start c.requires

pub weight-requires : goal.weight-requires
weight-requires c =
    omega (arith, c.requires.known, c.type_inv.nodes c.loop-v.v-index)

pub overflow_sub-left : goal.overflow_sub-left
overflow_sub-left c = omega (arith, c.weight.ensures, left-weight c.loop-v.invariant.turn c.loop-v-test.true)

pub cell-requires : goal.cell-requires
cell-requires c = c.requires.cells

pub loop-v-preserved : goal.loop-v-preserved
loop-v-preserved c =
    most-one c.loop-v.invariant c.loop-v-test.true (rw c.weight.ensures at c.cell.ensures) c.max-most.ensures

pub returns : goal.returns
returns c = most-all c.loop-v.invariant c.loop-v-test.false
