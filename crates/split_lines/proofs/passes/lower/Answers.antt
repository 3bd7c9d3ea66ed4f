use Rattle.split_lines.proofs.Lowering.{lowered_none, lowered-next}
use Rattle.split_lines.proofs.passes.lower.Goals as goal

pub loop-i-init : goal.loop-i-init
loop-i-init c = lowered_none

pub loop-i-preserved : goal.loop-i-preserved
loop-i-preserved c = lowered-next c.loop-i.invariant c.loop-i-test.true c.min.ensures
