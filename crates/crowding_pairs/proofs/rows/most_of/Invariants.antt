-- `crowding_pairs::rows::most_of` meets its contract. The loop's invariant: the largest count is the largest one looked at, or the
-- largest of the others. Assumes nothing.
use Prim.Native.Nat.{max}
use mathlib.Core.Path.{◌≡◌}
use lib.ListN.{drop}
use Rattle.lists.specs.Lists.{largest}
use Rattle.crowding_pairs.proofs.rows.most_of.Given as goal

abbrev pub invariant-loop-n : goal.invariant-loop-n
invariant-loop-n l = largest l.table ≡ max l.most (largest (drop l.n-index l.table))
