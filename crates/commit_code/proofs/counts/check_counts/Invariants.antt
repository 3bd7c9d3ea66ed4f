-- `commit_code::counts::check_counts` meets its contract. The loop's invariant: the layers below x take their counts, and `left`
-- of b is left. Assumes nothing.
use Prim.Native.Nat.{◌-◌, ◌≤◌}
use Rattle.commit.proofs.Counting.{Counted}
use Rattle.commit_code.proofs.counts.check_counts.Given as goal

abbrev pub invariant-loop-x : goal.invariant-loop-x
invariant-loop-x l = Counted l.layers l.s l.b l.counts l.x l.left
