-- `reply_replay::lowest_line` meets its contract: a line for each case. Assumes nothing.
use Rattle.reply_lines.proofs.Puts.{numbers-replied}
use native.Mathlib.Omega.{arith}
use Rattle.reply_replay.proofs.lowest_line.Goals as goal

pub returns-in-Lowest : goal.returns-in-Lowest
returns-in-Lowest c =
    rw c.in-Lowest.is (numbers-replied _ _ _ _ _ (omega (arith, c.requires)) c.put_numbers.ensures)

pub returns-in-Quiet : goal.returns-in-Quiet
returns-in-Quiet c =
    rw c.in-Quiet.is (numbers-replied _ _ _ _ _ (omega (arith, c.requires)) c.put_numbers-in-Quiet.ensures)

pub returns-in-Refused : goal.returns-in-Refused
returns-in-Refused c =
    rw c.in-Refused.is c.refused_line.ensures
