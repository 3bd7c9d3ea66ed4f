-- `split_count::best_count` meets its contract. Assumes nothing.
use mathlib.Core.Path.{◌∙◌}
use Rattle.split_count.proofs.Counting.{count-records}
use Rattle.split_count.proofs.best_count.Goals as goal

pub returns-then-size-each : goal.returns-then-size-each
returns-then-size-each c =
    c.count_by_records.ensures ∙ count-records c.args.below.now c.args.left c.requires.steps c.if-size-each.true
