-- No row of any layer is found crowded exactly where every layer is a packing. Assumes nothing.
use Prim.Native.Nat.{ℕ, suc}
use native.Mathlib.Omega.{arith}
use mathlib.Core.Path.{◌≡◌, refl}
use mathlib.Core.Logic.{◌↔◌}
use mathlib.Core.List.{List, [], ◌∷◌, flatten}
use mathlib.Core.Option.{Option, none, some}
use lib.ListN.{length}
use Rattle.lists.specs.Lists.{All}
use Rattle.lists.proofs.Alls.{all-append-left, all-append-right}
use Rattle.packing.specs.Rows.{Row, first_crowded}
use Rattle.packing.proofs.Test.{uncrowded-packing, packing-uncrowded}
use Rattle.layers.specs.Layers.{Layer, all_rows, Packings, first_of, first_crowded_of}

-- nothing is found in a layer or after it exactly where nothing is found in each
first-of-none : (o : Option ℕ) (size : ℕ) (after : Option ℕ) → first_of o size after ≡ none → (o ≡ none) × (after ≡ none)
first-of-none none size none e = (refl, refl)
first-of-none none size (some i) e = absurd (let z : ◌≡◌ {A = ℕ} 0 1 = cc in omega arith)
first-of-none (some i) size after e = absurd (let z : ◌≡◌ {A = ℕ} 0 1 = cc in omega arith)

-- in whatever order the rows are
pub uncrowded-packings : (x : ℕ) (layers : List Layer) → first_crowded_of x layers ≡ none → Packings x layers
unfolding first_crowded_of
uncrowded-packings x [] e = tt
uncrowded-packings x (layer ∷ layers) e =
    let h = first-of-none (first_crowded x layer.bound layer.rows) (length layer.rows) (first_crowded_of (suc x) layers) e in
    (uncrowded-packing x layer.bound layer.rows h.0, uncrowded-packings (suc x) layers h.1)

pub packings-uncrowded : (n r x : ℕ) (layers : List Layer) → Packings x layers → All (Row n r) (all_rows layers) → first_crowded_of x layers ≡ none
unfolding first_crowded_of flatten
packings-uncrowded n r x [] p h = refl
packings-uncrowded n r x (layer ∷ layers) p h =
    rw (
      packing-uncrowded x layer.bound layer.rows n r p.0 (all-append-left (Row n r) layer.rows (all_rows layers) h),
      packings-uncrowded n r (suc x) layers p.1 (all-append-right (Row n r) layer.rows (all_rows layers) h),
    )

-- "In layer x every set of x+1 nodes stands in at most" its bound of its rows: what the test over all layers says
pub packings-iff-uncrowded : (n r x : ℕ) (layers : List Layer) → All (Row n r) (all_rows layers) → (first_crowded_of x layers ≡ none) ↔ Packings x layers
packings-iff-uncrowded n r x layers h = (uncrowded-packings x layers, λ p. packings-uncrowded n r x layers p h)
