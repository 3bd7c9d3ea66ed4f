use Rattle.placement.specs.Figure.{loss, lost_by}
use native.Mathlib.Omega.{arith}
use Rattle.placement_figure.proofs.Losses.{lost-le-sizes, loss-done, lambda-most, loss-again}
use Rattle.placement_figure.proofs.figure_of.Goals as goal

pub loss_of-lost-requires : goal.loss_of-lost-requires
loss_of-lost-requires c =
    let small = lambda-most _ _ _ _ _ _ c.loop-x.invariant c.loop-x-test.true (omega (arith, c.requires.s_bound.0)) c.requires.all in
    (c.loop-x-test.true, c.requires.s_bound.0, c.requires.s_bound.1, c.requires.s_bound.2, small)

pub overflow_add-lost : goal.overflow_add-lost
unfolding lost_by loss
overflow_add-lost c =
    omega (arith, c.requires.s_bound, lost-le-sizes _ _ _ _ _ _ (loss-again _ _ _ _ _ _ c.loop-x.invariant c.loop-x-test.true (omega (arith, c.requires.s_bound.0)) c.loss_of-lost.ensures))

pub loop-x-preserved : goal.loop-x-preserved
unfolding lost_by loss
loop-x-preserved c = loss-again _ _ _ _ _ _ c.loop-x.invariant c.loop-x-test.true (omega (arith, c.requires.s_bound.0)) c.loss_of-lost.ensures

pub overflow_sub-result : goal.overflow_sub-result
overflow_sub-result c =
    omega (arith, c.requires.s_bound, lost-le-sizes _ _ _ _ _ _ c.loop-x.invariant)

pub returns : goal.returns
returns c = loss-done _ _ _ _ _ _ c.loop-x.invariant _ c.loop-x-test.false
