-- `lines::first_number` meets its contract. Assumes nothing.
use mathlib.Core.Path.{◌∙◌, ap}
use Rattle.logs.specs.Lines.{number_of}
use Rattle.logs_code.proofs.Slices.{word-inside, word-taken}
use Rattle.logs_code.proofs.lines.first_number.Goals as goal

pub slice_bounds-number_of-end : goal.slice_bounds-number_of-end
slice_bounds-number_of-end c = word-inside _ c.solid-end.ensures

pub returns : goal.returns
returns c = c.number_of.ensures ∙ ap number_of (word-taken _ c.solid-end.ensures)
