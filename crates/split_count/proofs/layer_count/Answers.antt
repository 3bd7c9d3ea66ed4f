-- `split_count::layer_count` meets its contract: the line that is lent is the table's. Assumes nothing.
use mathlib.Core.Path.{◌∙◌}
use Rattle.split_count.proofs.Lent.{countable-lent, best-lent}
use Rattle.split_count.proofs.layer_count.Goals as goal

pub best_count-requires : goal.best_count-requires
best_count-requires c =
    let p = c.requires in
    countable-lent p.0 p.1 c.steps-u.ensures p.2

pub returns : goal.returns
returns c =
    let p = c.requires in
    c.best_count.ensures ∙ best-lent p.0 p.1 c.steps-u.ensures p.2
