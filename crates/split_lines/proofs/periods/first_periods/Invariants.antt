-- `split_lines::periods::first_periods` meets its contract. The loop's invariant: the entries before place `i` are laid down. Assumes nothing.
use Rattle.split.specs.Working.{Periods}
use Rattle.split_lines.proofs.periods.first_periods.Given as goal

abbrev pub invariant-loop-i : goal.invariant-loop-i
invariant-loop-i l = Periods l.size l.step l.cost l.line l.i l.periods
