-- `dark_code::naming::mark_nodes` meets its contract. The loop's invariant: the marks are those of the nodes seen. Assumes
-- nothing.
use Prim.Native.Nat.{◌≤◌}
use mathlib.Core.Path.{◌≡◌}
use lib.ListN.{length, take}
use Rattle.dark_code.proofs.naming.Marks.{Marked}
use Rattle.dark_code.proofs.naming.mark_nodes.Given as goal

abbrev pub invariant-loop-i : goal.invariant-loop-i
invariant-loop-i l = (l.i ≤ l.count) × (length l.marks ≡ 256) × Marked l.marks (take l.i l.nodes)
