-- `join_writer::rows::shift_bytes` meets its contract. The loop's invariant: the shifted bytes before `place` stand at the
-- front, and what follows them is as it was. Assumes nothing.
use Prim.Native.Nat.{◌+◌}
use mathlib.Core.Path.{◌≡◌}
use mathlib.Core.List.{◌++◌, map}
use lib.ListN.{take, drop}
use Rattle.join_writer.proofs.rows.shift_bytes.Given as goal

abbrev pub invariant-loop-place : goal.invariant-loop-place
invariant-loop-place l =
    l.out ≡ take l.place (map (λ v. l.before + v) l.bytes) ++ drop l.place l.initial.out
