-- `export_number::musseltwig_read_within` meets its contract: the call's own contract, told as numbers; or too short an answer slice. Assumes nothing.
use Rattle.number.specs.Answers.{read_outcome}
use Rattle.exports.proofs.Told.{put-told, short-told}
use Rattle.export_number.proofs.musseltwig_read_within.Goals as goal

pub returns-then-answer-lt3 : goal.returns-then-answer-lt3
returns-then-answer-lt3 c = short-told _ 3 _ c.if-answer-lt3.true

pub tell_read-requires : goal.tell_read-requires
tell_read-requires c = c.if-answer-lt3.false

pub returns : goal.returns
returns c =
    put-told read_outcome _ _ 3 _ _ _ c.if-answer-lt3.false c.read_within-read.ensures c.tell_read.ensures
