-- `table_steps::nodes::in_order` meets its contract. The loop: the numbers from place i on, from `least` on, answer for all. Assumes nothing.
use mathlib.Core.Path.{◌≡◌}
use lib.ListN.{drop}
use Rattle.packing.specs.Rows.{is_in_order}
use Rattle.table_steps.proofs.Ordering.{order_from}
use Rattle.table_steps.proofs.nodes.in_order.Given as goal

abbrev pub invariant-loop-v : goal.invariant-loop-v
invariant-loop-v l = is_in_order l.n l.numbers ≡ order_from l.n l.least (drop l.v-index l.numbers)
