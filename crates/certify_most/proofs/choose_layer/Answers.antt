use native.Mathlib.Omega.{arith}
use mathlib.Core.Path.{◌≡◌, ◌∙◌, ap}
use Rattle.certify.specs.Answers.{choice_below}
use Rattle.certify_most.proofs.Choices.{choice-first, choice-next}
use Rattle.certify_most.proofs.choose_layer.Goals as goal

pub choice_in-best-requires : goal.choice_in-best-requires
choice_in-best-requires c =
    record { rows_asked = c.requires.rows_asked; order_asked = (c.requires.order_asked, c.requires.order_asked.s-least) }

pub loop-x-init : goal.loop-x-init
loop-x-init c = choice-first _ _ c.choice_in-best.ensures

pub choice_in-next-requires : goal.choice_in-next-requires
choice_in-next-requires c =
    record { rows_asked = c.requires.rows_asked; order_asked = (c.requires.order_asked, c.loop-x-test.true) }

pub loop-x-preserved : goal.loop-x-preserved
loop-x-preserved c = choice-next _ _ _ c.loop-x.invariant c.choice_in-next.ensures c.better-best.ensures

pub returns : goal.returns
returns c =
    let least = c.requires.order_asked.s-least in
    let done : c.loop-x.x ≡ c.args.order.s = omega arith in
    c.loop-x.invariant ∙ ap (choice_below _ _) done
