-- `split_count::count_by_records` meets its contract. The loop's invariant: the counts up to `c` were looked at. Assumes nothing.
use Prim.Native.Nat.{◌*◌, ◌≤◌}
use Rattle.split.specs.Table.{sum_at}
use Rattle.split_count.proofs.Scans.{ScanTo}
use Rattle.split_count.proofs.count_by_records.Given as goal

abbrev pub invariant-loop-c : goal.invariant-loop-c
invariant-loop-c l = (l.c ≤ l.left) × ScanTo (sum_at (λ n. n * l.each) l.below l.left) l.c l.best l.least
