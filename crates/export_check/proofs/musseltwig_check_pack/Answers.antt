-- `export_check::musseltwig_check_pack` meets its contract: the call's own contract, told as numbers; or too short an answer slice. Assumes nothing.
use Rattle.pack.specs.Answers.{pack_outcome}
use Rattle.exports.proofs.Told.{put-told, short-told}
use Rattle.export_check.proofs.Fits.{pack-fits}
use Rattle.export_check.proofs.musseltwig_check_pack.Goals as goal

pub returns-then-answer-lt270 : goal.returns-then-answer-lt270
returns-then-answer-lt270 c = short-told _ 270 _ c.if-answer-lt270.true

pub tell_pack-requires : goal.tell_pack-requires
tell_pack-requires c = (pack-fits _ _ c.check_pack-check.ensures, c.if-answer-lt270.false)

pub returns : goal.returns
returns c =
    put-told pack_outcome _ _ 270 _ _ _ c.if-answer-lt270.false c.check_pack-check.ensures c.tell_pack.ensures
