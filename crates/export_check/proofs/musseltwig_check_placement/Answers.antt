-- `export_check::musseltwig_check_placement` meets its contract: the call's own contract, told as numbers; or too short an answer slice. Assumes nothing.
use Rattle.placement.specs.Answers.{placement_outcome}
use Rattle.exports.proofs.Told.{put-told, short-told}
use Rattle.export_check.proofs.Fits.{placement-fits}
use Rattle.export_check.proofs.musseltwig_check_placement.Goals as goal

pub returns-then-answer-lt531 : goal.returns-then-answer-lt531
returns-then-answer-lt531 c = short-told _ 531 _ c.if-answer-lt531.true

pub tell_placement-requires : goal.tell_placement-requires
tell_placement-requires c = (placement-fits _ _ c.check_placement-check.ensures, c.if-answer-lt531.false)

pub returns : goal.returns
returns c =
    put-told placement_outcome _ _ 531 _ _ _ c.if-answer-lt531.false c.check_placement-check.ensures c.tell_placement.ensures
