-- `export_walk::musseltwig_step` meets its contract: the row's place and length, and the walk past it; or too short an answer slice. Assumes nothing.
use mathlib.Core.Path.{refl}
use Rattle.exports.proofs.Told.{put-told, short-told}
use Rattle.export_walk.proofs.musseltwig_step.Goals as goal

pub returns-then-answer-lt6 : goal.returns-then-answer-lt6
returns-then-answer-lt6 c = short-told _ 6 _ c.if-answer-lt6.true

pub returns : goal.returns
returns c =
    put-told (λ said. said) _ _ 6 _ _ _ c.if-answer-lt6.false refl
    (record { answer-after = rw (← c.start_of-start.ensures, ← c.moved-next.ensures, ← c.row_at-row.ensures.content) c.put.ensures; returned = refl })
