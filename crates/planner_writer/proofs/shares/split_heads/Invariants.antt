-- `planner_writer::shares::split_heads` meets its contract. The loop's invariant: the layers below x have their numbers, the
-- others 0 and 0. Assumes nothing.
use mathlib.Core.Path.{◌≡◌}
use Rattle.layers.specs.Answers.{five_heads}
use Rattle.split.specs.Splits.{split_heads, counts_split}
use Rattle.planner_writer.proofs.shares.split_heads.Given as goal

abbrev pub invariant-loop-x : goal.invariant-loop-x
invariant-loop-x l = l.heads ≡ five_heads (split_heads l.layers l.x (counts_split l.layers l.counts))
