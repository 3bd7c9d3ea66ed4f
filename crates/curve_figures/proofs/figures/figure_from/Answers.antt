use Prim.Native.Nat.{◌+◌, ◌*◌, min}
use native.Mathlib.Omega.{arith}
use mathlib.Core.Path.{◌≡◌, ◌∙◌, ap}
use lib.ListN.{get_or}
use Rattle.binomial.specs.Choose.{choose}
use Rattle.binomial.proofs.Laws.{choose-positive, mul-choose-lt}
use Rattle.layers.specs.Answers.{no_head}
use Rattle.placement.specs.declared.Rule.TheVariants.{OneFloor}
use Rattle.placement_figure.proofs.Losses.{LossTurn, loss-holds, lost-le-sizes, loss-done, lambda-most, loss-again}
use Rattle.curve.proofs.Binomials.{row-entry, one-floor}
use Rattle.curve_figures.proofs.figures.figure_from.Goals as goal

pub loop-x-init : goal.loop-x-init
loop-x-init c = loss-holds OneFloor _ _ _

pub loss_from-lost-requires : goal.loss_from-lost-requires
loss_from-lost-requires c =
    let most = lambda-most OneFloor _ _ _ _ _ c.loop-x.invariant c.loop-x-test.true c.requires.layers_asked.0.held c.requires.layers_asked.0.bounds in
    let fits = mul-choose-lt _ _ (c.loop-x.x + 1) most c.requires.layers_asked.1 (omega (arith, c.requires.layers_asked.0.s-most, c.loop-x-test.true)) in
    let some = choose-positive c.args.s (c.loop-x.x + 1) (omega (arith, c.loop-x-test.true)) in (
      omega (arith, fits, ap (λ a. (get_or c.args.layers c.loop-x.x no_head).bound * a) ((let above-is-here : get_or c.args.above (c.loop-x.x + 1) 0 ≡ choose c.args.k (c.loop-x.x + 1) = row-entry _ c.requires.above_value.0 _ (omega (arith, c.requires.layers_asked.0.s-most, c.loop-x-test.true)) in above-is-here))),
      omega (arith, (let below-is-here : get_or c.args.below (c.loop-x.x + 1) 0 ≡ choose c.args.s (c.loop-x.x + 1) = row-entry _ c.requires.above_value.1 _ (omega (arith, c.requires.layers_asked.0.s-most, c.loop-x-test.true)) in below-is-here), some),
    )

pub overflow_add-lost : goal.overflow_add-lost
overflow_add-lost c =
    omega (
      arith,
      c.requires.layers_asked.0.fit,
      lost-le-sizes OneFloor _ _ _ _ _ ((let again-here : LossTurn OneFloor c.args.s c.args.k c.args.layers (c.loop-x.lost + c.loss_from-lost.result) (c.loop-x.x + 1) = loss-again OneFloor _ _ _ _ _ c.loop-x.invariant c.loop-x-test.true c.requires.layers_asked.0.held
          (c.loss_from-lost.ensures ∙ ap (min (get_or c.args.layers c.loop-x.x no_head).size) (one-floor _ _ _ _ ((let above-is-here : get_or c.args.above (c.loop-x.x + 1) 0 ≡ choose c.args.k (c.loop-x.x + 1) = row-entry _ c.requires.above_value.0 _ (omega (arith, c.requires.layers_asked.0.s-most, c.loop-x-test.true)) in above-is-here)) ((let below-is-here : get_or c.args.below (c.loop-x.x + 1) 0 ≡ choose c.args.s (c.loop-x.x + 1) = row-entry _ c.requires.above_value.1 _ (omega (arith, c.requires.layers_asked.0.s-most, c.loop-x-test.true)) in below-is-here)))) in again-here)),
    )

pub loop-x-preserved : goal.loop-x-preserved
loop-x-preserved c = (let again-here : LossTurn OneFloor c.args.s c.args.k c.args.layers (c.loop-x.lost + c.loss_from-lost.result) (c.loop-x.x + 1) = loss-again OneFloor _ _ _ _ _ c.loop-x.invariant c.loop-x-test.true c.requires.layers_asked.0.held
    (c.loss_from-lost.ensures ∙ ap (min (get_or c.args.layers c.loop-x.x no_head).size) (one-floor _ _ _ _ ((let above-is-here : get_or c.args.above (c.loop-x.x + 1) 0 ≡ choose c.args.k (c.loop-x.x + 1) = row-entry _ c.requires.above_value.0 _ (omega (arith, c.requires.layers_asked.0.s-most, c.loop-x-test.true)) in above-is-here)) ((let below-is-here : get_or c.args.below (c.loop-x.x + 1) 0 ≡ choose c.args.s (c.loop-x.x + 1) = row-entry _ c.requires.above_value.1 _ (omega (arith, c.requires.layers_asked.0.s-most, c.loop-x-test.true)) in below-is-here)))) in again-here)

pub overflow_sub-result : goal.overflow_sub-result
overflow_sub-result c =
    omega (arith, c.requires.layers_asked.0.fit, lost-le-sizes OneFloor _ _ _ _ _ c.loop-x.invariant)

pub returns : goal.returns
returns c = loss-done OneFloor _ _ _ _ _ c.loop-x.invariant _ c.loop-x-test.false
