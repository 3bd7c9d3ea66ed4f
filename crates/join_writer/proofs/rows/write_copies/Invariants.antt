-- `join_writer::rows::write_copies` meets its contract. The loop's invariant: `done` copies stand at the front, and what follows
-- them is as it was. Assumes nothing.
use Prim.Native.Nat.{◌+◌, ◌*◌}
use lib.ListN.{length}
use mathlib.Core.List.{map}
use Rattle.join.proofs.Bytes.{Copying}
use Rattle.join_writer.proofs.rows.write_copies.Given as goal

abbrev pub invariant-loop-done : goal.invariant-loop-done
invariant-loop-done l = Copying l.initial.out (map (λ v. l.before + v) l.bytes) l.copies l.out l.done (l.done * length l.bytes)
