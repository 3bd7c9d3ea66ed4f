use native.Mathlib.Omega.{arith}
use Rattle.crowding_sums.proofs.Left.{left-start, left-weight, left-room, two-next, left-all}
use Rattle.crowding_sums.proofs.count.count_without_two.Goals as goal

pub loop-i-init : goal.loop-i-init
loop-i-init c = left-start c.requires

pub weight-requires : goal.weight-requires
weight-requires c =
    omega (arith, c.requires.look.known, c.type_inv.nodes c.loop-i.i)

pub overflow_sub-left : goal.overflow_sub-left
overflow_sub-left c =
    omega (arith, c.weight.ensures, left-weight c.loop-i.invariant.turn c.loop-i-test.true)

pub count_without_one-requires : goal.count_without_one-requires
count_without_one-requires c =
    rw c.weight.ensures (left-room c.loop-i.invariant c.loop-i-test.true c.requires (omega arith))

pub loop-i-preserved : goal.loop-i-preserved
loop-i-preserved c =
    two-next c.loop-i.invariant c.loop-i-test.true c.requires
    (rw c.weight.ensures at c.count_without_one.ensures)

pub returns : goal.returns
returns c = left-all c.loop-i.invariant c.loop-i-test.false
