-- `lines::first_state` meets its contract. Assumes nothing.
use mathlib.Core.Path.{◌∙◌, ap}
use Rattle.logs.specs.Lines.{state_of}
use Rattle.logs_code.proofs.Slices.{word-inside, word-taken}
use Rattle.logs_code.proofs.lines.first_state.Goals as goal

pub slice_bounds-state_of-end : goal.slice_bounds-state_of-end
slice_bounds-state_of-end c = word-inside _ c.solid-end.ensures

pub returns : goal.returns
returns c = c.state_of.ensures ∙ ap state_of (word-taken _ c.solid-end.ensures)
