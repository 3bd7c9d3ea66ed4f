-- `table_blocks::nodes::put_nodes` meets its contract. The loop: the nodes before place i are written. Assumes nothing.
use mathlib.Core.Path.{◌≡◌}
use mathlib.Core.List.{◌++◌}
use lib.ListN.{length, take, drop}
use Rattle.table_blocks.proofs.nodes.put_nodes.Given as goal

abbrev pub invariant-loop-i : goal.invariant-loop-i
invariant-loop-i l =
    (length l.rows ≡ length l.initial.rows) × (l.rows ≡ take l.i l.nodes ++ drop l.i l.initial.rows)
