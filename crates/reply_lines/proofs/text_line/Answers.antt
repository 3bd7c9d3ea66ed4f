-- `reply_lines::text_line` meets its contract: the number and the place of each case. Assumes nothing.
use Rattle.reply_lines.proofs.text_line.Goals as goal

pub returns-in-Arguments : goal.returns-in-Arguments
returns-in-Arguments c = rw c.in-Arguments.is c.refused_with.ensures

pub returns-in-Unreadable : goal.returns-in-Unreadable
returns-in-Unreadable c = rw c.in-Unreadable.is c.refused_with-in-Unreadable.ensures

pub returns-in-TooLong : goal.returns-in-TooLong
returns-in-TooLong c = rw c.in-TooLong.is c.refused_with-in-TooLong.ensures
