-- Layers one by one: their rows, their two numbers, and their packings. Assumes nothing.
use Prim.Native.Nat.{ℕ, zero, suc, ◌+◌, ◌≤◌, ◌<◌, suc-le-suc}
use native.Mathlib.Omega.{arith}
use native.Mathlib.Nat.{not-suc-le-zero, le_of_suc-le-suc, zero-lt-suc, add-zero, suc-add, add-suc}
use mathlib.Core.Path.{◌≡◌, refl}
use mathlib.Core.List.{List, [], ◌∷◌, flatten}
use lib.ListN.{length, get_or}
use lib.Dec.{ltb, ltb→lt}
use Rattle.lists.specs.Lists.{All, every}
use Rattle.lists.proofs.Alls.{all-append-left, all-append-right, all-imp, every-all}
use Rattle.lists.proofs.Tests.{and_right}
use Rattle.number.specs.Numbers.{Bytes}
use Rattle.packing.specs.Rows.{Packing, Row, ascending}
use Rattle.layers.specs.Layers.{Layer, blocks_at, all_rows, head_of, heads_of, Packings}
use Rattle.layers.specs.Answers.{no_head}

-- a row's nodes are below n
pub row_below : (n r : ℕ) (row : List ℕ) → Row n r row → All (λ v. v < n) row
row_below n r row h =
    all-imp _ _ (λ v t. ltb→lt v n t) row
    (every-all (λ v. ltb v n) row (and_right (ascending 0 row) (every (λ v. ltb v n) row) h.1))

-- and bytes
pub row-bytes : (n r : ℕ) → n ≤ 255 → (row : List ℕ) → Row n r row → Bytes row
row-bytes n r small row h = all-imp (λ v. v < n) (λ v. v < 256) (λ v lt. omega arith) row (row_below n r row h)

-- what holds of all rows holds of one layer's
pub layer-rows : (P : List ℕ → Type 0) (layers : List Layer) (x : ℕ) → All P (all_rows layers) → All P (blocks_at layers x).rows
unfolding flatten
layer-rows P [] x h = tt
layer-rows P (layer ∷ layers) zero h = all-append-left P layer.rows (all_rows layers) h
layer-rows P (layer ∷ layers) (suc x) h = layer-rows P layers x (all-append-right P layer.rows (all_rows layers) h)

-- layer x's two numbers
pub head_of-blocks_at : (layers : List Layer) (x : ℕ) → get_or (heads_of layers) x no_head ≡ head_of (blocks_at layers x)
head_of-blocks_at [] x = refl
head_of-blocks_at (layer ∷ layers) zero = refl
head_of-blocks_at (layer ∷ layers) (suc x) = head_of-blocks_at layers x

-- the packings of the layers from o on, layer by layer
pub packing-at : (o : ℕ) (layers : List Layer) (x : ℕ) → x < length layers → Packings o layers
    → Packing (o + x) (blocks_at layers x).bound (blocks_at layers x).rows
packing-at o [] x lt h = absurd (not-suc-le-zero lt)
packing-at o (layer ∷ layers) zero lt h = rw (add-zero o) h.0
packing-at o (layer ∷ layers) (suc x) lt h =
    rw (add-suc o x, ← suc-add o x) (packing-at (suc o) layers x (le_of_suc-le-suc lt) h.1)

pub packings-from : (o : ℕ) (layers : List Layer)
    → ((x : ℕ) → x < length layers → Packing (o + x) (blocks_at layers x).bound (blocks_at layers x).rows) → Packings o layers
packings-from o [] h = tt
packings-from o (layer ∷ layers) h = (
  rw (add-zero o) at (h zero (zero-lt-suc _)),
  packings-from (suc o) layers (λ x lt. rw (suc-add o x, ← add-suc o x) (h (suc x) (suc-le-suc lt))),
)
