-- `split_lines::passes::lower` meets its contract. The loop's invariant: the entries before place `i` are lowered. Assumes nothing.
use Rattle.split_lines.proofs.Lowering.{LoweredTo}
use Rattle.split_lines.proofs.passes.lower.Given as goal

abbrev pub invariant-loop-i : goal.invariant-loop-i
invariant-loop-i l = LoweredTo l.at l.n l.cost l.initial.work l.line l.i l.work
