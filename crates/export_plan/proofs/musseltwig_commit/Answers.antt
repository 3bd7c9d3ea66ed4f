-- `export_plan::musseltwig_commit` meets its contract: the call's own contract, told as numbers; or too short an answer slice. Assumes nothing.
use Rattle.export_plan.proofs.Exported.{commit-told, commit-short}
use Rattle.export_plan.proofs.musseltwig_commit.Goals as goal

pub returns-then-answer-lt8 : goal.returns-then-answer-lt8
returns-then-answer-lt8 c = commit-short _ _ _ c.if-answer-lt8.true

pub tell_plan-requires : goal.tell_plan-requires
tell_plan-requires c = c.if-answer-lt8.false

pub returns : goal.returns
returns c =
    commit-told _ _ _ _ _ _ _ c.if-answer-lt8.false c.commit-result.ensures c.tell_plan.ensures
