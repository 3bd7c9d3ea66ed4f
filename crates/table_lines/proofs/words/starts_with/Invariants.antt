-- `table_lines::words::starts_with` meets its contract. The loop: the bytes before place i are those of the word. Assumes nothing.
use Prim.Native.Nat.{◌≤◌}
use lib.ListN.{length}
use Rattle.table_lines.proofs.Looking.{Compared}
use Rattle.table_lines.proofs.words.starts_with.Given as goal

abbrev pub invariant-loop-i : goal.invariant-loop-i
invariant-loop-i l = (l.i ≤ length l.word) × Compared l.word l.line l.i
