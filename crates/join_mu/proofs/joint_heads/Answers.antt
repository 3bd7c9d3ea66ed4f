use native.Mathlib.Omega.{arith}
use Rattle.join.proofs.Heads.{heads-none, next-few, heads-next}
use Rattle.join_mu.proofs.joint_heads.Goals as goal

pub loop-x-init : goal.loop-x-init
loop-x-init c = heads-none _ _ _ _

pub overflow_add-rows : goal.overflow_add-rows
overflow_add-rows c =
    omega (
      arith,
      next-few _ _ _ c.loop-x.invariant c.requires.heads_fit c.requires.heads_fit_2 c.requires.heads_fit_3 c.requires.r_bound c.loop-x-test.true c.joint_head-head.result c.joint_head-head.ensures,
    )

pub loop-x-preserved : goal.loop-x-preserved
loop-x-preserved c =
    heads-next _ _ _ c.loop-x.invariant c.requires.heads_fit c.requires.heads_fit_2 c.requires.heads_fit_3 c.requires.r_bound c.loop-x-test.true c.joint_head-head.result c.joint_head-head.ensures
    c.max-most.result c.max-most.ensures
