-- `replay_step::step` meets its contract. Assumes nothing.
use native.Mathlib.Omega.{arith}
use mathlib.Core.Path.{sym, ◌∙◌}
use Rattle.replay.specs.Board.{down_of}
use Rattle.replay.proofs.Steps.{good-event, step-over, step-counting, step-refused, step-moved}
use Rattle.replay_step.proofs.step.Goals as goal

pub returns-then-not-is_running : goal.returns-then-not-is_running
returns-then-not-is_running c = step-over _ _ _ _ c.requires (sym c.is_running.ensures ∙ c.if-not-is_running.true)

pub check_event-checked-requires : goal.check_event-checked-requires
check_event-checked-requires c = c.requires.long

pub change-left-requires : goal.change-left-requires
change-left-requires c =
    let e = c.args.event in
    let runs = sym c.is_running.ensures ∙ c.if-not-is_running.false in
    let p = c.args.progress in
    let counting = step-counting p c.args.board.now c.args.i e c.requires runs in
    let good = good-event p.n c.args.i p.time (down_of c.args.board.now) e (sym c.in-Ok.is ∙ c.check_event-checked.ensures) in
    record { board_len = (c.requires.long, omega (arith, good.below, counting.n-most)); counting = counting; node_value = (good.was-up, good.was-down) }

pub returns-in-Err : goal.returns-in-Err
returns-in-Err c =
    let runs = sym c.is_running.ensures ∙ c.if-not-is_running.false in
    step-refused _ _ _ _ c.requires runs (sym c.in-Err.is ∙ c.check_event-checked.ensures)

pub shape_of-board-in-Ok : goal.shape_of-board-in-Ok
shape_of-board-in-Ok c = c.board-1.given

pub returns-in-Ok : goal.returns-in-Ok
returns-in-Ok c =
    let runs = sym c.is_running.ensures ∙ c.if-not-is_running.false in
    step-moved _ _ _ _ c.requires runs (sym c.in-Ok.is ∙ c.check_event-checked.ensures)
    c.change-left.ensures c.lowered-low.ensures
