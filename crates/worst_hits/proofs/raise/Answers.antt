use native.Mathlib.Omega.{arith}
use mathlib.Core.Path.{refl}
use Rattle.worst.specs.Records.{raised_to}
use Rattle.worst.proofs.Hits.{reached-le, few-after}
use Rattle.worst.proofs.Turns.{raise-record, raise-fits, raise-next}
use Rattle.worst_hits.proofs.raise.Goals as goal

pub loop-raised-init : goal.loop-raised-init
unfolding raised_to
loop-raised-init c = (refl, c.requires.usable_value)

pub overflow_sub-left : goal.overflow_sub-left
overflow_sub-left c =
    let inside = raise-record c.requires.raising c.loop-raised-test.true c.record_at-record.ensures c.loop-raised.invariant.0 in
    omega (arith, c.reaches-left.ensures, reached-le c.args.s c.loop-raised.hits c.record_at-record.result.0 inside)

pub overflow_add-hits : goal.overflow_add-hits
overflow_add-hits c =
    omega (arith, raise-fits c.requires.raising c.loop-raised-test.true c.record_at-record.ensures c.loop-raised.invariant.0)

pub loop-raised-preserved : goal.loop-raised-preserved
loop-raised-preserved c =
    let pre = c.requires.raising in
    let i = c.record_at-record.result.0 in
    let inside = raise-record pre c.loop-raised-test.true c.record_at-record.ensures c.loop-raised.invariant.0 in (
      raise-next pre c.loop-raised-test.true c.record_at-record.ensures c.loop-raised.invariant.0,
      few-after c.args.s c.loop-raised.hits i inside c.loop-raised.invariant.1 c.reaches-left.ensures,
    )
