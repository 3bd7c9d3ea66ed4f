-- `rows_code::row_in_order` meets its contract. The loop's invariant: the row's order is that of the nodes not yet looked at,
-- after the last one that was. Assumes nothing.
use mathlib.Core.Path.{◌≡◌}
use lib.ListN.{drop}
use Rattle.packing.specs.Rows.{is_in_order}
use Rattle.rows_code.proofs.Row.{order_after}
use Rattle.rows_code.proofs.row_in_order.Given as goal

abbrev pub invariant-loop-v : goal.invariant-loop-v
invariant-loop-v l = is_in_order l.n l.row ≡ order_after l.n l.last.0 (drop l.v-index l.others)
