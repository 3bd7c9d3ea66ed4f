-- `replay_step::check_event` meets its contract. Assumes nothing.
use native.Mathlib.Omega.{arith}
use mathlib.Core.Path.{sym, ◌∙◌, ap}
use mathlib.Core.Bool.{cond, not}
use Rattle.replay.specs.Board.{down_of}
use Rattle.replay.proofs.Steps.{event-earlier, event-outside, event-idle, event-fine}
use Rattle.replay_step.proofs.check_event.Goals as goal

pub returns-then-event-time : goal.returns-then-event-time
returns-then-event-time c =
    event-earlier c.args.n c.args.i c.args.time (down_of c.args.board.now) c.args.event c.if-event-time.true

pub returns-then-from-n : goal.returns-then-from-n
returns-then-from-n c =
    event-outside c.args.n c.args.i c.args.time (down_of c.args.board.now) c.args.event c.if-event-time.false (omega arith)

pub returns-then-not-differs : goal.returns-then-not-differs
returns-then-not-differs c =
    event-idle c.args.n c.args.i c.args.time (down_of c.args.board.now) c.args.event c.if-event-time.false (omega arith)
    (ap (λ was. cond c.args.event.down (not was) was) (sym c.is_down.ensures) ∙ sym c.differs.ensures
    ∙ c.if-not-differs.true)

pub returns : goal.returns
returns c =
    event-fine c.args.n c.args.i c.args.time (down_of c.args.board.now) c.args.event c.if-event-time.false (omega arith)
    (ap (λ was. cond c.args.event.down (not was) was) (sym c.is_down.ensures) ∙ sym c.differs.ensures
    ∙ c.if-not-differs.false)
