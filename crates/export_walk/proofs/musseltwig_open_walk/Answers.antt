-- `export_walk::musseltwig_open_walk` meets its contract: the call's own contract, told as numbers; or too short an answer slice. Assumes nothing.
use Rattle.walk.specs.RowWalk.{walk_outcome}
use Rattle.exports.proofs.Told.{put-told, short-told}
use Rattle.export_walk.proofs.musseltwig_open_walk.Goals as goal

pub returns-then-answer-lt4 : goal.returns-then-answer-lt4
returns-then-answer-lt4 c = short-told _ 4 _ c.if-answer-lt4.true

pub tell_opened-requires : goal.tell_opened-requires
tell_opened-requires c = c.if-answer-lt4.false

pub returns : goal.returns
returns c =
    put-told walk_outcome _ _ 4 _ _ _ c.if-answer-lt4.false c.opened-opened.ensures c.tell_opened.ensures
