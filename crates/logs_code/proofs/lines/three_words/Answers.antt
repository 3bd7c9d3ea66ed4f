-- `lines::three_words` meets its contract. Assumes nothing.
use mathlib.Core.Path.{◌∙◌}
use Rattle.logs_code.proofs.Slices.{three-is}
use Rattle.logs_code.proofs.lines.three_words.Goals as goal

pub returns : goal.returns
returns c =
    c.two_words.ensures ∙ three-is _ c.after_word-next.ensures.0 c.first_number-time.ensures
