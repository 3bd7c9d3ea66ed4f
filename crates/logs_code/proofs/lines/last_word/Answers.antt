-- `lines::last_word` meets its contract. Assumes nothing.
use mathlib.Core.Path.{◌∙◌}
use Rattle.logs_code.proofs.Slices.{last_more, last-all}
use Rattle.logs_code.proofs.lines.last_word.Goals as goal

pub returns-then-next-third : goal.returns-then-next-third
returns-then-next-third c = last_more _ c.after_word-next.ensures.0 _ _ c.if-next-third.true

pub returns : goal.returns
returns c =
    c.event_said.ensures ∙ last-all _ c.after_word-next.ensures.0 _ _ c.if-next-third.false c.first_state-state.ensures
