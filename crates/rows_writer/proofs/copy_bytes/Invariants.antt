-- `rows_writer::copy_bytes` meets its contract. The loop's invariant: the bytes before `place` stand at the front, and what
-- follows them is as it was. Assumes nothing.
use Prim.Native.Nat.{◌≤◌}
use mathlib.Core.Path.{◌≡◌}
use mathlib.Core.List.{◌++◌}
use lib.ListN.{length, take, drop}
use Rattle.rows_writer.proofs.copy_bytes.Given as goal

abbrev pub invariant-loop-place : goal.invariant-loop-place
invariant-loop-place l =
    (l.place ≤ length l.bytes) × (length l.out ≡ length l.initial.out) × (l.out ≡ take l.place l.bytes ++ drop l.place l.initial.out)
