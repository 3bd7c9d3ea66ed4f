use mathlib.Core.Path.{refl}
use native.Mathlib.Omega.{arith}
use Rattle.replay.proofs.Turns.{Turn, same_next, turn_end}
use Rattle.replay_code.proofs.run.Goals as goal

pub loop-i-init : goal.loop-i-init
loop-i-init c = (c.requires, refl)

pub step-progress-requires : goal.step-progress-requires
step-progress-requires c = c.loop-i.invariant.0

pub loop-i-preserved : goal.loop-i-preserved
loop-i-preserved c =
    let a = c.args in
    let l = c.loop-i in
    let t : Turn a.start a.board.now a.events.now =
    record { i = l.i; p = l.progress; l = l.board; upto = omega arith; standing = l.invariant.0; same = l.invariant.1 } in (
      c.step-progress.ensures.standing,
      same_next a.start a.board.now a.events.now t c.loop-i-test.true _ refl _ _ c.step-progress.ensures,
    )

pub returns : goal.returns
returns c =
    let a = c.args in
    let l = c.loop-i in
    let t : Turn a.start a.board.now a.events.now =
    record { i = l.i; p = l.progress; l = l.board; upto = omega arith; standing = l.invariant.0; same = l.invariant.1 } in
    turn_end a.start a.board.now a.events.now t c.loop-i-test.false
