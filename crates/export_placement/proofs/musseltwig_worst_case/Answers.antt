-- `export_placement::musseltwig_worst_case` meets its contract: the call's own contract, told as numbers; or too short an answer slice. Assumes nothing.
use Rattle.export_placement.proofs.Exported.{worst-told, worst-short}
use Rattle.export_placement.proofs.musseltwig_worst_case.Goals as goal

pub returns-then-answer-lt2 : goal.returns-then-answer-lt2
returns-then-answer-lt2 c = worst-short _ _ _ c.if-answer-lt2.true

pub writing-requires : goal.writing-requires
writing-requires c = c.if-answer-lt2.false

pub returns : goal.returns
returns c =
    worst-told _ _ _ _ _ _ _ c.if-answer-lt2.false c.worst_case-fewest.ensures c.writing.ensures
