-- `export_certify::musseltwig_certify` meets its contract: the call's own contract, told as numbers; or too short an answer slice. Assumes nothing.
use native.Mathlib.Omega.{arith}
use Rattle.export_plan.proofs.Exported.{commit-told, commit-short}
use Rattle.export_certify.proofs.musseltwig_certify.Goals as goal

pub returns-then-answer-lt8 : goal.returns-then-answer-lt8
returns-then-answer-lt8 c = commit-short _ _ _ (omega (arith, c.if-answer-lt8.true))

pub tell_plan-requires : goal.tell_plan-requires
tell_plan-requires c = c.if-answer-lt8.false

pub returns : goal.returns
returns c =
    commit-told _ _ _ _ _ _ _ c.if-answer-lt8.false
    (record { answer = c.certify-result.ensures.answer; output-after = c.certify-result.ensures.output-after }) c.tell_plan.ensures
