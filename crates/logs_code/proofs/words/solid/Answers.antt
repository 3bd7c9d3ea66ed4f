-- `words::solid` meets its contract. Assumes nothing.
use mathlib.Core.Path.{refl, ◌∙◌}
use Rattle.std.proofs.Common.{rules, tests}
use Rattle.std.proofs.lemmas.Iterator.{YieldsList-from_slice}
use Rattle.std.proofs.lemmas.Iterator.Search.{position_from_yields_List}
use Rattle.table.specs.Lines.{is_blank}
use Rattle.logs.specs.Lines.{no_blank}
use Rattle.logs_code.proofs.Places.{leading-or-end}
use Rattle.logs_code.proofs.words.solid.Goals as goal

pub returns : goal.returns
returns c =
    c.unwrap_or.ensures
    ∙ leading-or-end no_blank (is_blank) (λ b. refl) c.args.bytes.now
    (position_from_yields_List (is_blank) _ _ c.position.result c.position.ensures.ran (YieldsList-from_slice c.args.bytes.now cc) (λ x b q k. search (rules, tests)))
