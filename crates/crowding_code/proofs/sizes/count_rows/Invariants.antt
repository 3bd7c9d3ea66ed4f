-- `crowding_code::count_rows` meets its contract. The loop's invariant: the sum is that of the sizes passed. Assumes nothing.
use mathlib.Core.Path.{◌≡◌}
use lib.ListN.{take}
use Rattle.layers.specs.Layers.{sizes}
use Rattle.crowding_code.proofs.sizes.count_rows.Given as goal

abbrev pub invariant-loop-x : goal.invariant-loop-x
invariant-loop-x l = l.sum ≡ sizes (take l.x l.heads)
