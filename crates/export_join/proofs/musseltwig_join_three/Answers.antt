-- `export_join::musseltwig_join_three` meets its contract: the call's own contract, told as numbers; or too short an answer slice. Assumes nothing.
use Rattle.export_join.proofs.Exported.{join-told, join-short}
use Rattle.export_join.proofs.musseltwig_join_three.Goals as goal

pub returns-then-answer-lt2 : goal.returns-then-answer-lt2
returns-then-answer-lt2 c = join-short _ _ _ c.if-answer-lt2.true

pub writing-requires : goal.writing-requires
writing-requires c = c.if-answer-lt2.false

pub returns : goal.returns
returns c =
    join-told _ _ _ _ _ _ _ c.if-answer-lt2.false c.join_three-joined.ensures c.writing.ensures
