-- `table_lines::bytes::first_of` meets its contract. The loop: no byte before place i is the one looked for. Assumes nothing.
use Rattle.table_lines.proofs.Looking.{Looked}
use Rattle.table_lines.proofs.bytes.first_of.Given as goal

abbrev pub invariant-loop-i : goal.invariant-loop-i
invariant-loop-i l = Looked l.byte l.bytes l.i
