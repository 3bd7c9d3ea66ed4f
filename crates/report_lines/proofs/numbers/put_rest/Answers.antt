use native.Mathlib.Omega.{arith}
use lib.ListN.{length-set}
use Rattle.report_lines.proofs.numbers.Turns.{turn_holds, turn_last, turn-last-inside, turn-room, turn-again}
use Rattle.report_lines.proofs.numbers.put_rest.Goals as goal

pub loop-n-init : goal.loop-n-init
loop-n-init c = turn_holds _ _ _ c.requires

pub bounds-out-place : goal.bounds-out-place
bounds-out-place c = omega (arith, turn-room _ _ _ _ _ _ c.loop-n.invariant c.loop-n-test.true)

pub put_decimal-place-requires : goal.put_decimal-place-requires
put_decimal-place-requires c =
    rw length-set (turn-room _ _ _ _ _ _ c.loop-n.invariant c.loop-n-test.true)

pub loop-n-preserved : goal.loop-n-preserved
loop-n-preserved c =
    turn-again _ _ _ _ _ _ c.loop-n.invariant c.loop-n-test.true _ _ c.put_decimal-place.auto.out
    c.put_decimal-place.ensures

pub bounds-out-place-2 : goal.bounds-out-place-2
bounds-out-place-2 c = turn-last-inside _ _ _ _ _ _ c.loop-n.invariant c.loop-n-test.false

pub returns : goal.returns
returns c = turn_last _ _ _ _ _ _ c.loop-n.invariant c.loop-n-test.false
