-- `words::blanks` meets its contract. Assumes nothing.
use mathlib.Core.Path.{◌∙◌}
use mathlib.Core.Bool.{not}
use Rattle.std.proofs.Common.{rules, tests}
use Rattle.std.proofs.lemmas.Iterator.{YieldsList-from_slice}
use Rattle.std.proofs.lemmas.Iterator.Search.{position_from_yields_List}
use Rattle.table.specs.Lines.{is_blank}
use Rattle.logs_code.proofs.Places.{twice, leading-or-end}
use Rattle.logs_code.proofs.words.blanks.Goals as goal

pub returns : goal.returns
returns c =
    c.unwrap_or.ensures
    ∙ leading-or-end is_blank (λ b. not (is_blank b)) (λ b. twice (is_blank b)) c.args.bytes.now
    (position_from_yields_List (λ b. not (is_blank b)) _ _ c.position.result c.position.ensures.ran (YieldsList-from_slice c.args.bytes.now cc) (λ x b q k. search (rules, tests)))
