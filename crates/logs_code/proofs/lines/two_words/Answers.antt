-- `lines::two_words` meets its contract. Assumes nothing.
use mathlib.Core.Path.{◌∙◌}
use Rattle.logs_code.proofs.Slices.{two_is}
use Rattle.logs_code.proofs.lines.two_words.Goals as goal

pub returns : goal.returns
returns c =
    c.last_word.ensures ∙ two_is _ c.after_word-next.ensures.0 _ c.first_number-node.ensures
