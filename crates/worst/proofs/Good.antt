-- The true worst case of an accepted placement, over what can fail of it. Assumes nothing.
use Prim.Native.Nat.{◌<◌}
use native.Mathlib.Omega.{arith}
use native.Mathlib.Nat.{le_of_eq}
use mathlib.Core.Path.{◌≡◌, ◌∙◌, ap}
use lib.ListN.{length}
use lib.Dec.{ltb, ltb→lt}
use Rattle.lists.specs.Lists.{All}
use Rattle.lists.proofs.Alls.{all-imp, every-all}
use Rattle.lists.proofs.Tests.{and_right}
use Rattle.packing.specs.Rows.{Row, ascending}
use Rattle.layers.specs.Layers.{sizes}
use Rattle.layers.proofs.Lengths.{length-all_rows}
use Rattle.placement.specs.Feeders.{unit_layers}
use Rattle.placement.specs.Placement.{Placement, GoodPlacement}
use Rattle.placement.specs.Units.{units, unit_rows}
use Rattle.placement.proofs.FeederRows.{unit-heads}
use Rattle.placement.proofs.TableRows.{units-within}
use Rattle.placement.proofs.Units.{unit-rows-are}
use Rattle.worst.specs.Worst.{worst_of}
use Rattle.worst.proofs.Exact.{TrueWorst, worst-exact}

pub worst-of-good : (p : Placement) → GoodPlacement p → TrueWorst (units p) p.s p.k (unit_rows p) (worst_of p)
unfolding worst_of
worst-of-good p good =
    let count : length (unit_rows p) ≡ p.b =
    length-all_rows (unit_layers p.feeders p.layers) ∙ ap sizes (unit-heads p.feeders p.layers) ∙ good.limits.records-all in
    worst-exact (units p) p.s p.k p.b (unit_rows p) (omega (arith, (units-within p good).0))
    (le_of_eq count)
    (all-imp (Row (units p) p.r) (All (λ v. v < units p))
    (λ row h. all-imp _ _ (λ v t. ltb→lt v (units p) t) row (every-all (λ v. ltb v (units p)) row (and_right (ascending 0 row) _ h.1)))
    (unit_rows p) (unit-rows-are p good))
