-- `split_count::count_by_both` meets its contract. The loop's invariant: the counts up to `c` were looked at. Assumes nothing.
use Prim.Native.Nat.{◌+◌, ◌-◌}
use Rattle.split_count.proofs.Counting.{Counted}
use Rattle.split_count.proofs.count_by_both.Given as goal

abbrev pub invariant-loop-c : goal.invariant-loop-c
invariant-loop-c l =
    Counted (record { size = l.size; each = l.each; period = l.period; costs = l.costs }) l.below l.left l.best l.least l.copies l.paid l.c

abbrev pub decreases-loop-c : goal.decreases-loop-c
decreases-loop-c l =
    l.left - l.c + (l.left - l.copies)
