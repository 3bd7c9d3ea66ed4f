-- `rows_load::largest_count` meets its contract. The loop's invariant: the largest count is the largest one looked at, or the
-- largest of the others. Assumes nothing.
use Prim.Native.Nat.{max}
use mathlib.Core.Path.{◌≡◌}
use lib.ListN.{drop}
use Rattle.lists.specs.Lists.{largest}
use Rattle.rows_load.proofs.largest_count.Given as goal

abbrev pub invariant-loop-n : goal.invariant-loop-n
invariant-loop-n l = largest l.counts ≡ max l.most (largest (drop l.n-index l.counts))
