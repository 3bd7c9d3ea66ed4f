-- `rounds_code::rounds` meets its contract: the refusal of the placement's check, or what comes of its numbers, by nodes or by feeders.
-- Assumes nothing.
use mathlib.Core.Path.{sym, ◌∙◌, ap}
use Rattle.refusal.proofs.Answered.{passed-on}
use Rattle.rounds.specs.Answers.{rounds_answer}
use Rattle.rounds.proofs.Checking.{rows-held, rounds-of-check, fed-held, rounds-of-fed, rounds-of-refused}
use Rattle.rounds_code.proofs.rounds.Goals as goal

pub play_accepted-requires : goal.play_accepted-requires
play_accepted-requires c =
    rows-held _ c.check_placement-check.ensures c.in_ok-head.was c.if-table-eq0.true

pub returns-then-table-eq0 : goal.returns-then-table-eq0
returns-then-table-eq0 c =
    c.play_accepted.ensures
    ∙ sym (ap rounds_answer (rounds-of-check _ c.check_placement-check.ensures c.in_ok-head.was c.if-table-eq0.true c.args.q))

pub play_feeders-requires : goal.play_feeders-requires
play_feeders-requires c =
    fed-held _ c.check_placement-check.ensures c.in_ok-head.was c.if-table-eq0.false

pub returns-in_err-head : goal.returns-in_err-head
returns-in_err-head c =
    passed-on _ c.from_residual.ensures.1
    ∙ sym (ap rounds_answer (rounds-of-refused _ c.check_placement-check.ensures c.in_err-head.was c.args.q))

pub returns : goal.returns
returns c =
    c.play_feeders.ensures.answer
    ∙ sym (ap rounds_answer (rounds-of-fed _ c.check_placement-check.ensures c.in_ok-head.was c.if-table-eq0.false c.play_feeders.ensures.after c.args.q))
