use Prim.Native.Nat.{◌-◌}
use native.Mathlib.Omega.{arith}
use Rattle.crowding_search.proofs.Short.{short-block}
use Rattle.crowding_search.proofs.long.past_blocks.Goals as goal

pub loop-end-init : goal.loop-end-init
loop-end-init c = (omega (arith, c.requires.first_lt_v, c.requires.v_in_bounds), (omega arith, λ u le lt. absurd (omega arith)))

pub returns-then-most_of-bound : goal.returns-then-most_of-bound
returns-then-most_of-bound c = let w = c.loop-end.invariant in record { lower_bound = w.0; upper_bound = w.1.0; short_from = w.1.1 }

pub loop-end-preserved : goal.loop-end-preserved
loop-end-preserved c = (
  omega (arith, c.loop-end-test.true),
  (
    omega (arith, c.loop-end.invariant.1.0),
    short-block c.args.counts.now (c.loop-end.end - 16) c.loop-end.end c.loop-end.invariant.1.1 (omega (arith, c.most_of.ensures, c.if-most_of-bound.false)),
  ),
)

pub returns : goal.returns
returns c = let w = c.loop-end.invariant in record { lower_bound = w.0; upper_bound = w.1.0; short_from = w.1.1 }
