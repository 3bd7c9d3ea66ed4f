use native.Mathlib.Omega.{arith}
use mathlib.Core.Path.{refl}
use Rattle.crowding_sums.proofs.Left.{most-start, left-weight, left-look, most-next, most-all}
use Rattle.crowding_sums.proofs.most.most_without_two.Goals as goal

pub loop-i-init : goal.loop-i-init
loop-i-init c = most-start c.requires

pub weight-requires : goal.weight-requires
weight-requires c =
    omega (arith, c.requires.known, c.type_inv.nodes c.loop-i.i)

pub overflow_sub-left : goal.overflow_sub-left
overflow_sub-left c = omega (arith, c.weight.ensures, left-weight c.loop-i.invariant.turn c.loop-i-test.true)

pub most_without_one-requires : goal.most_without_one-requires
most_without_one-requires c =
    rw c.weight.ensures (left-look c.loop-i.invariant.turn c.loop-i-test.true c.requires refl)

pub loop-i-preserved : goal.loop-i-preserved
loop-i-preserved c =
    most-next c.loop-i.invariant c.loop-i-test.true (rw c.weight.ensures at c.most_without_one.ensures)
    c.max-most.ensures

pub returns : goal.returns
returns c = most-all c.loop-i.invariant c.loop-i-test.false
