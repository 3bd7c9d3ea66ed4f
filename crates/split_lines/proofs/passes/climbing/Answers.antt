use Rattle.split_lines.proofs.Climbing.{counted_none, counted_next, tally-from}
use mathlib.Core.Path.{◌∙◌}
use Rattle.split_lines.proofs.passes.climbing.Goals as goal

pub loop-i-init : goal.loop-i-init
loop-i-init c = counted_none

pub loop-i-preserved : goal.loop-i-preserved
loop-i-preserved c = counted_next c.loop-i.invariant c.loop-i-test.true (c.from-found.ensures ∙ tally-from _)
