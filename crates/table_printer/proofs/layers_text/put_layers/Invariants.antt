-- `table_printer::layers_text::put_layers` meets its contract. The loop: the layers from `head` on are left. Assumes nothing.
use Prim.Native.Nat.{◌-◌}
use lib.ListN.{take}
use Rattle.table_printer.proofs.Turns.{LayersTurn}
use Rattle.table_printer.proofs.layers_text.put_layers.Given as goal

abbrev pub invariant-loop-head : goal.invariant-loop-head
invariant-loop-head l = LayersTurn (take (l.r - 0) l.fn.heads) l.rows l.r l.initial.out l.at l.out l.place l.from l.head-index
