-- `rows_writer::write_rows` meets its contract. The loop's invariant: the rows so far stand at the front, whole copies of the blocks
-- where rows are left, and what follows them is as it was. Assumes nothing.
use Prim.Native.Nat.{◌-◌}
use Rattle.rows_writer.proofs.Runs.{Run}
use Rattle.rows_writer.proofs.write_rows.Given as goal

abbrev pub invariant-loop-written : goal.invariant-loop-written
invariant-loop-written l = Run l.fn.out l.blocks l.m l.r l.c l.out l.written

abbrev pub decreases-loop-written : goal.decreases-loop-written
decreases-loop-written l = l.c - l.written
