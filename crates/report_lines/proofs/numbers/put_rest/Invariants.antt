-- `report_lines::numbers::put_rest` meets its contract. The loop's invariant: the numbers that are left, stored from the present place
-- on, make the whole of them. Assumes nothing.
use Rattle.report_lines.proofs.numbers.Turns.{Turn}
use Rattle.report_lines.proofs.numbers.put_rest.Given as goal

abbrev pub invariant-loop-n : goal.invariant-loop-n
invariant-loop-n l = Turn l.numbers l.initial.out l.out l.at l.place l.n-index
