-- `split_lines::step_by_records` meets its contract. The loop's invariant: the entries before place `i` are written. Assumes nothing.
use Rattle.split.specs.Table.{stepped}
use Rattle.split_lines.proofs.Raising.{line_under, Raised}
use Rattle.split_lines.proofs.step_by_records.Given as goal

abbrev pub invariant-loop-i : goal.invariant-loop-i
invariant-loop-i l =
    Raised l.each l.at l.w l.initial.work (stepped 1 l.each (line_under l.at l.w l.initial.work)) l.i l.records l.work
