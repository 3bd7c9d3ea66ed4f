-- `crowding_extremes::highest` meets its contract: the highest node so far and the highest of the others give the answer.
-- Assumes nothing.
use Prim.Native.Nat.{max}
use mathlib.Core.Path.{◌≡◌}
use lib.ListN.{drop}
use Rattle.lists.specs.Lists.{largest}
use Rattle.crowding_extremes.proofs.highest.Given as goal

abbrev pub invariant-loop-v : goal.invariant-loop-v
invariant-loop-v l = largest l.rows ≡ max l.high (largest (drop l.v-index l.rows))
