-- `split_code::choose_counts` meets its contract. The loop's invariant: the counts from layer `x` on are chosen. Assumes nothing.
use Prim.Native.Nat.{◌-◌}
use Rattle.split_code.proofs.Choosing.{Choosing}
use Rattle.split_code.proofs.choose_counts.Given as goal

abbrev pub invariant-loop-x : goal.invariant-loop-x
invariant-loop-x l = Choosing l.layers l.order (l.x - 1) l.left l.counts
