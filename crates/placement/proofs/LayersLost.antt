-- Whichever k nodes fail, the records of layers stay usable or are counted in the layers' losses, by either rule of loss. Assumes
-- nothing.
use Prim.Native.Nat.{ℕ, suc, ◌+◌, ◌≤◌}
use native.Mathlib.Omega.{arith}
use mathlib.Core.Path.{◌≡◌}
use mathlib.Core.Bool.{Bool}
use mathlib.Core.List.{List, [], ◌∷◌, ◌++◌, flatten}
use lib.ListN.{length}
use lib.Dec.{ltb}
use Rattle.lists.specs.Lists.{All, total}
use Rattle.lists.proofs.Counts.{count-append}
use Rattle.lists.proofs.Alls.{all-append-left, all-append-right}
use Rattle.packing.specs.Rows.{Row, Packing}
use Rattle.packing.specs.Failures.{Failure, hits, usable}
use Rattle.packing.proofs.Floors.{floors_down-nested}
use Rattle.packing.proofs.Survivors.{failed-le-floors, failed-le-loss}
use Rattle.layers.specs.Layers.{Layer, all_rows, Packings, heads_of, sizes}
use Rattle.placement.specs.declared.Rule.{Rule}
use Rattle.placement.specs.declared.Rule.TheVariants.{OneFloor, NestedFloors}
use Rattle.placement.specs.Figure.{lost_by, loss, losses}

-- whichever k nodes are failed, a packing's records that fail are at most what its layer can lose, by either rule
pub failed-le-lost : (rule : Rule) (n r x s k bound : ℕ) (rows : List (List ℕ)) (failed : ℕ → Bool) → suc x ≤ s
    → All (Row n r) rows → Packing x bound rows → Failure n k failed
    → length rows ≤ usable s rows failed + lost_by rule s k x bound
unfolding lost_by
failed-le-lost OneFloor n r x s k bound rows failed h o packing e = failed-le-loss n r x s k bound rows failed h o packing e
failed-le-lost NestedFloors n r x s k bound rows failed h o packing e =
    rw (floors_down-nested k s x bound) (failed-le-floors n r x s k bound rows failed h o packing e)

usable-append : (s : ℕ) (rows more : List (List ℕ)) (failed : ℕ → Bool) → usable s (rows ++ more) failed ≡ usable s rows failed + usable s more failed
unfolding usable
usable-append s rows more failed = count-append (λ row. ltb (hits failed row) s) rows more

-- the records of the layers from x on are usable, or counted in the layers' losses
pub sizes-le-losses : (rule : Rule) (n r s k x : ℕ) (layers : List Layer) (failed : ℕ → Bool) → x + length layers ≤ s → All (Row n r) (all_rows layers)
    → Packings x layers → Failure n k failed
    → sizes (heads_of layers) ≤ usable s (all_rows layers) failed + losses rule s k x (heads_of layers)
unfolding total flatten loss losses
sizes-le-losses rule n r s k x [] failed h rows packings e = omega arith
sizes-le-losses rule n r s k x (layer ∷ layers) failed h rows packings e =
    let here = failed-le-lost rule n r x s k layer.bound layer.rows failed (omega arith)
    (all-append-left (Row n r) layer.rows (all_rows layers) rows) packings.0 e in
    let later = sizes-le-losses rule n r s k (suc x) layers failed (omega arith)
    (all-append-right (Row n r) layer.rows (all_rows layers) rows) packings.1 e in
    rw (usable-append s layer.rows (all_rows layers) failed) (omega arith)
