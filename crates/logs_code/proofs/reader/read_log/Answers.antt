use lib.ListN.{length-append, length-replicate}
use lib.Dec.{eqb}
use Rattle.std.proofs.Common.{rules, tests}
use Rattle.std.proofs.lemmas.Iterator.Splits.{YieldsList-from_slice_split}
use Rattle.std.proofs.lemmas.Iterator.Consumers.{YieldsList-from_enumerate, YieldsList-at}
use Rattle.logs_code.proofs.Turns.{unread-in, long-unread, turn-start, line-at, lines-all, turn_end, turn-unreadable, turn-nothing, turn-full, turn-event}
use Rattle.logs_code.proofs.reader.read_log.Goals as goal

pub returns-then-text-ge-TEXT_MOST : goal.returns-then-text-ge-TEXT_MOST
returns-then-text-ge-TEXT_MOST c = unread-in _ (long-unread _ c.if-text-ge-TEXT_MOST.true) c.refused.ensures

pub loop-i-init : goal.loop-i-init
loop-i-init c = (c.if-text-ge-TEXT_MOST.false, turn-start _ _ c.if-text-ge-TEXT_MOST.false (length-replicate 2_048 c.no_event-none.result))

pub returns-in-Unreadable : goal.returns-in-Unreadable
returns-in-Unreadable c =
    let line =
    line-at c.args.text.now (YieldsList-from_enumerate (YieldsList-at (cc) (YieldsList-from_slice_split {s = c.split.result} _ (λ b. eqb b 10) c.args.text.now c.split.ensures.rest c.split.ensures.done c.split.ensures.closure (λ x b q k. search (rules, tests)))) (cc))
    c.loop-i.yielded _ c.loop-i.yielded_by _ _ _ c.in-Some.is c.next.ensures.steps in
    unread-in _ (turn-unreadable c.loop-i.invariant.1 line c.line_of.ensures c.in-Unreadable.is) c.refused-in-Unreadable.ensures

pub loop-i-preserved-in-Nothing : goal.loop-i-preserved-in-Nothing
loop-i-preserved-in-Nothing c =
    let line =
    line-at c.args.text.now (YieldsList-from_enumerate (YieldsList-at (cc) (YieldsList-from_slice_split {s = c.split.result} _ (λ b. eqb b 10) c.args.text.now c.split.ensures.rest c.split.ensures.done c.split.ensures.closure (λ x b q k. search (rules, tests)))) (cc))
    c.loop-i.yielded _ c.loop-i.yielded_by _ _ _ c.in-Some.is c.next.ensures.steps in
    (c.loop-i.invariant.0, rw length-append (turn-nothing c.loop-i.invariant.1 line c.line_of.ensures c.in-Nothing.is))

pub returns-then-count-ge2048 : goal.returns-then-count-ge2048
returns-then-count-ge2048 c =
    let line =
    line-at c.args.text.now (YieldsList-from_enumerate (YieldsList-at (cc) (YieldsList-from_slice_split {s = c.split.result} _ (λ b. eqb b 10) c.args.text.now c.split.ensures.rest c.split.ensures.done c.split.ensures.closure (λ x b q k. search (rules, tests)))) (cc))
    c.loop-i.yielded _ c.loop-i.yielded_by _ _ _ c.in-Some.is c.next.ensures.steps in
    unread-in _ (turn-full c.loop-i.invariant.1 line c.line_of.ensures c.in-Happens.is c.if-count-ge2048.true) c.refused-then-count-ge2048.ensures

pub loop-i-preserved : goal.loop-i-preserved
loop-i-preserved c =
    let line =
    line-at c.args.text.now (YieldsList-from_enumerate (YieldsList-at (cc) (YieldsList-from_slice_split {s = c.split.result} _ (λ b. eqb b 10) c.args.text.now c.split.ensures.rest c.split.ensures.done c.split.ensures.closure (λ x b q k. search (rules, tests)))) (cc))
    c.loop-i.yielded _ c.loop-i.yielded_by _ _ _ c.in-Some.is c.next.ensures.steps in
    (c.loop-i.invariant.0, rw length-append (turn-event c.loop-i.invariant.1 line c.line_of.ensures c.in-Happens.is c.if-count-ge2048.false))

pub returns : goal.returns
returns c =
    turn_end c.loop-i.invariant.1
    (lines-all c.args.text.now (YieldsList-from_enumerate (YieldsList-at (cc) (YieldsList-from_slice_split {s = c.split.result} _ (λ b. eqb b 10) c.args.text.now c.split.ensures.rest c.split.ensures.done c.split.ensures.closure (λ x b q k. search (rules, tests)))) (cc)) c.loop-i.yielded _ c.loop-i.yielded_by _ _ c.in-None.is c.next.ensures.steps)
