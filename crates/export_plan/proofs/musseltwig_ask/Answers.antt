-- `export_plan::musseltwig_ask` meets its contract: the call's own contract, told as numbers; or too short an answer slice. Assumes nothing.
use Rattle.export_plan.proofs.Exported.{ask-told, ask-short}
use Rattle.export_plan.proofs.musseltwig_ask.Goals as goal

pub returns-then-answer-lt12 : goal.returns-then-answer-lt12
returns-then-answer-lt12 c = ask-short _ _ _ _ c.if-answer-lt12.true

pub tell_offer-requires : goal.tell_offer-requires
tell_offer-requires c = c.if-answer-lt12.false

pub returns : goal.returns
returns c =
    ask-told _ _ _ _ _ _ _ _ c.if-answer-lt12.false c.ask-result.ensures c.tell_offer.ensures
