-- `lines::content_line` meets its contract. Assumes nothing.
use mathlib.Core.Path.{◌∙◌}
use Rattle.logs_code.proofs.Slices.{start-inside, content-none, content-some}
use Rattle.logs_code.proofs.lines.content_line.Goals as goal

pub returns-then-start-content : goal.returns-then-start-content
returns-then-start-content c = content-none _ c.blanks-start.ensures c.if-start-content.true

pub slice_bounds-three_words-count : goal.slice_bounds-three_words-count
slice_bounds-three_words-count c = start-inside _ c.blanks-start.ensures

pub slice_bounds-three_words-start : goal.slice_bounds-three_words-start
slice_bounds-three_words-start c = start-inside _ c.blanks-start.ensures

pub returns : goal.returns
returns c = c.three_words.ensures ∙ content-some _ c.blanks-start.ensures c.if-start-content.false
