use native.Mathlib.Omega.{arith}
use Rattle.crowding_sums.proofs.Left.{weigh-next, weigh-end, weigh-le}
use Rattle.crowding_sums.proofs.count.sum_of.Goals as goal

pub overflow_add-sum : goal.overflow_add-sum
overflow_add-sum c =
    let nodes = c.args.nodes.now in
    let weights = c.args.weights.now in
    omega (
      arith,
      weigh-next weights nodes c.loop-v.v-index c.loop-v-test.true,
      weigh-le weights 65535 nodes (λ i. omega (arith, c.type_inv.weights i)),
    )

pub loop-v-preserved : goal.loop-v-preserved
loop-v-preserved c = omega (arith, weigh-next c.args.weights.now c.args.nodes.now c.loop-v.v-index c.loop-v-test.true)

pub returns : goal.returns
returns c = omega (arith, weigh-end c.args.weights.now c.args.nodes.now c.loop-v.v-index c.loop-v-test.false)
