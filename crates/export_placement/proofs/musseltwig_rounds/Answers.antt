-- `export_placement::musseltwig_rounds` meets its contract: the call's own contract, told as numbers; or too short an answer slice. Assumes nothing.
use Rattle.rounds.specs.Answers.{rounds_outcome}
use Rattle.exports.proofs.Told.{put-told, short-told}
use Rattle.export_placement.proofs.musseltwig_rounds.Goals as goal

pub returns-then-answer-lt2 : goal.returns-then-answer-lt2
returns-then-answer-lt2 c = short-told _ _ _ c.if-answer-lt2.true

pub writing-requires : goal.writing-requires
writing-requires c = c.if-answer-lt2.false

pub returns : goal.returns
returns c =
    put-told rounds_outcome _ _ 2 _ _ _ c.if-answer-lt2.false c.rounds-usable.ensures c.writing.ensures
