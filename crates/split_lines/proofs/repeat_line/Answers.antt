-- `split_lines::repeat_line` meets its contract. Assumes nothing.
use mathlib.Core.Path.{◌∙◌}
use Rattle.split_lines.proofs.Raising.{repeated}
use Rattle.split_lines.proofs.repeat_line.Goals as goal

pub returns : goal.returns
returns c = c.copy_within.ensures.after ∙ repeated c.requires
