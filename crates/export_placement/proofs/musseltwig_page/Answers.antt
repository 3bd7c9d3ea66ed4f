-- `export_placement::musseltwig_page` meets its contract: the call's own contract, told as numbers; or too short an answer slice. Assumes nothing.
use Rattle.exports.proofs.Told.{writing-told, writing-short}
use Rattle.export_placement.proofs.musseltwig_page.Goals as goal

pub returns-then-answer-lt2 : goal.returns-then-answer-lt2
returns-then-answer-lt2 c = writing-short _ _ _ c.if-answer-lt2.true

pub writing-requires : goal.writing-requires
writing-requires c = c.if-answer-lt2.false

pub returns : goal.returns
returns c =
    writing-told _ _ _ _ _ _ _ c.if-answer-lt2.false c.page-wrote.ensures c.writing.ensures
