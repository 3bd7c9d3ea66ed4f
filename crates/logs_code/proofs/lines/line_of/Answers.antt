-- `lines::line_of` meets its contract. Assumes nothing.
use mathlib.Core.Path.{◌∙◌}
use Rattle.logs_code.proofs.Slices.{comment-inside, line-is}
use Rattle.logs_code.proofs.lines.line_of.Goals as goal

pub slice_bounds-content_line-end : goal.slice_bounds-content_line-end
slice_bounds-content_line-end c = comment-inside _ c.first_of-end.ensures

pub returns : goal.returns
returns c = c.content_line.ensures ∙ line-is _ c.first_of-end.ensures
