use Prim.Native.Nat.{◌*◌, ◌<◌}
use Rattle.split_count.proofs.Counting.{next-is, counted_none, counted_stop, counted-taken, counted-left}
use native.Mathlib.Omega.{arith}
use Rattle.split_count.proofs.count_by_both.Goals as goal

pub loop-c-init : goal.loop-c-init
loop-c-init c = counted_none c.requires.steps c.from-least.ensures

pub returns-then-least-min : goal.returns-then-least-min
returns-then-least-min c =
    let p = c.requires.steps in
    counted_stop p.size-pos c.loop-c.invariant c.loop-c-test.true p c.if-copies-size.true c.min.ensures c.if-least-min.true

pub loop-c-preserved-then-loss-least : goal.loop-c-preserved-then-loss-least
loop-c-preserved-then-loss-least c =
    let p = c.requires in
    let room : c.loop-c.c < c.loop-c.copies * c.args.u.size = let h = c.loop-c.invariant.held in omega (arith, c.if-copies-size.false) in
    let next = next-is p.steps.size-pos c.loop-c.invariant c.loop-c-test.true room p.rising p.within c.next_count-c.ensures in
    let e = c.from.ensures in
    rw e (counted-taken p.steps.size-pos c.loop-c.invariant c.loop-c-test.true room next c.min-in-loop-c.ensures (rw e at c.if-loss-least.true))

pub loop-c-preserved : goal.loop-c-preserved
loop-c-preserved c =
    let p = c.requires in
    let room : c.loop-c.c < c.loop-c.copies * c.args.u.size = let h = c.loop-c.invariant.held in omega (arith, c.if-copies-size.false) in
    let next = next-is p.steps.size-pos c.loop-c.invariant c.loop-c-test.true room p.rising p.within c.next_count-c.ensures in
    let e = c.from.ensures in
    counted-left p.steps.size-pos c.loop-c.invariant c.loop-c-test.true room next c.min-in-loop-c.ensures (rw e at (c.if-loss-least.false))
