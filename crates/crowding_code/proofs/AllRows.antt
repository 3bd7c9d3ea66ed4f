-- The rows of all layers: their bytes are few, they follow one another, and what holds of them holds of the first. Assumes nothing.
use Prim.Native.Nat.{ℕ, ◌+◌, ◌*◌, ◌-◌, ◌≤◌}
use native.Mathlib.Nat.{mul-le-mul}
use native.Mathlib.Omega.{arith}
use mathlib.Core.Path.{◌≡◌, refl, sym}
use mathlib.Core.List.{List, [], ◌∷◌, flatten}
use lib.ListN.{drop}
use Rattle.lists.specs.Lists.{All, total}
use Rattle.lists.proofs.Alls.{all-append-left}
use Rattle.packing.specs.Rows.{rows_at}
use Rattle.packing.proofs.RowsAt.{rows_at-add}
use Rattle.layers.specs.Layers.{sizes, all_rows, layers_at}
use Rattle.layers.specs.declared.LayerHead.{LayerHead}

-- the rows' bytes are few
pub rows-small : {rows r : ℕ} → rows ≤ 4_096 → r ≤ 5 → rows * r ≤ 20_480
rows-small h k = mul-le-mul h k

-- the rows of all layers are the rows that follow one another in the bytes
pub all_rows-layers_at : (r : ℕ) (heads : List LayerHead) (s : List ℕ) → all_rows (layers_at r heads s)
    ≡ rows_at r (sizes heads) s
unfolding layers_at rows_at flatten total
all_rows-layers_at r [] s = refl
all_rows-layers_at r (head ∷ heads) s =
    rw (all_rows-layers_at r heads (drop (head.size * r) s)) (sym (rows_at-add r head.size (sizes heads) s))

-- what holds of rows holds of the first of them
pub first_rows : (P : List ℕ → Type 0) (r c rows : ℕ) (s : List ℕ) → c ≤ rows → All P (rows_at r rows s) → All P (rows_at r c s)
first_rows P r c rows s le all =
    let e : c + (rows - c) ≡ rows = omega arith in
    let whole : All P (rows_at r (c + (rows - c)) s) = rw e all in
    all-append-left P (rows_at r c s) (rows_at r (rows - c) (drop (c * r) s)) (rw (rows_at-add r c (rows - c) s) at whole)
