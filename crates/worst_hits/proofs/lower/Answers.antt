use native.Mathlib.Omega.{arith}
use mathlib.Core.Path.{refl}
use Rattle.worst.specs.Records.{lowered_to}
use Rattle.worst.proofs.Turns.{lower-some, lower-next}
use Rattle.worst_hits.proofs.lower.Goals as goal

pub loop-lowered-init : goal.loop-lowered-init
unfolding lowered_to
loop-lowered-init c = refl

pub overflow_sub-hits : goal.overflow_sub-hits
overflow_sub-hits c =
    omega (arith, lower-some c.requires c.loop-lowered-test.true c.record_at-record.ensures c.loop-lowered.invariant)

pub loop-lowered-preserved : goal.loop-lowered-preserved
loop-lowered-preserved c =
    lower-next c.requires c.loop-lowered-test.true c.record_at-record.ensures c.loop-lowered.invariant
