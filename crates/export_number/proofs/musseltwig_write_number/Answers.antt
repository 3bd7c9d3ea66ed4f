-- `export_number::musseltwig_write_number` meets its contract: the call's own contract, told as numbers; or too short an answer slice. Assumes nothing.
use Rattle.export_number.proofs.Exported.{number-told, number_short}
use Rattle.export_number.proofs.musseltwig_write_number.Goals as goal

pub returns-then-answer-lt2 : goal.returns-then-answer-lt2
returns-then-answer-lt2 c = number_short _ _ _ c.if-answer-lt2.true

pub writing-requires : goal.writing-requires
writing-requires c = c.if-answer-lt2.false

pub returns : goal.returns
returns c =
    number-told _ _ _ _ _ _ _ c.if-answer-lt2.false c.write_number-wrote.ensures c.writing.ensures
