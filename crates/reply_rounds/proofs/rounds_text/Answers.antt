-- `reply_rounds::rounds_text` meets its contract: the line of the call's number, or of its refusal. Assumes nothing.
use native.Mathlib.Omega.{arith}
use Rattle.reply_lines.proofs.Puts.{numbers-replied}
use Rattle.reply_rounds.proofs.Rounds.{text-usable, text-refused}
use Rattle.reply_rounds.proofs.rounds_text.Goals as goal

pub returns-in-Ok : goal.returns-in-Ok
returns-in-Ok c =
    rw (text-usable c.args.q c.args.placement.now c.rounds-answer.ensures c.in-Ok.is)
    (numbers-replied _ _ _ _ _ (omega (arith, c.requires)) c.put_numbers.ensures)

pub returns-in-Err : goal.returns-in-Err
returns-in-Err c =
    rw (text-refused c.args.q c.args.placement.now c.rounds-answer.ensures c.in-Err.is)
    c.refused_line.ensures
