use Prim.Native.Nat.{◌-◌}
use native.Mathlib.Omega.{arith}
use Rattle.crowding_search.proofs.Short.{short-node}
use Rattle.crowding_search.proofs.long.next_long.Goals as goal

pub loop-node-init : goal.loop-node-init
loop-node-init c = (c.past_blocks-node.ensures.upper_bound, c.past_blocks-node.ensures.short_from)

pub overflow_cast-counts : goal.overflow_cast-counts
overflow_cast-counts c = omega (arith, c.type_inv.counts (c.loop-node.node - 1))

pub returns-then-counts-node : goal.returns-then-counts-node
returns-then-counts-node c =
    record { upper_bound = omega (arith, c.loop-node.invariant.0, c.loop-node-test.true); short_from = λ u le lt. c.loop-node.invariant.1 u (omega (arith, c.loop-node-test.true)) lt }

pub loop-node-preserved : goal.loop-node-preserved
loop-node-preserved c =
    (omega (arith, c.loop-node.invariant.0), short-node c.args.counts.now c.loop-node.node c.loop-node.invariant.1 (omega (arith, c.if-counts-node.false)))

pub returns : goal.returns
returns c =
    record { upper_bound = omega (arith, c.loop-node-test.false, c.requires.first_lt_v, c.requires.v_in_bounds); short_from = λ u le lt. c.loop-node.invariant.1 u (omega arith) lt }
