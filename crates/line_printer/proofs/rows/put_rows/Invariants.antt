-- `line_printer::rows::put_rows` meets its contract. The loop: the rows from row j on are left. Assumes nothing.
use Rattle.line_printer.proofs.Turns.{RowsTurn}
use Rattle.line_printer.proofs.rows.put_rows.Given as goal

abbrev pub invariant-loop-j : goal.invariant-loop-j
invariant-loop-j l = RowsTurn l.rows l.m l.r l.initial.out l.at l.out l.place l.from l._j
