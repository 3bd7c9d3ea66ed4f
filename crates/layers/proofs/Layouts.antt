-- The rows of layers one after another, and the layers that they are taken apart into. Assumes nothing.
use Prim.Native.Nat.{ℕ, zero, suc, ◌+◌, ◌*◌, ◌≤◌}
use native.Mathlib.Omega.{arith}
use native.Mathlib.Nat.{zero-mul}
use mathlib.Core.Path.{◌≡◌, refl, ◌∙◌}
use mathlib.Core.List.{List, [], ◌∷◌, ◌++◌, flatten, append_assoc}
use lib.ListN.{length, get_or, take, drop, length-drop}
use lib.Seq.{take-add, drop_at, drop-drop}
use Rattle.lists.specs.Lists.{All, total}
use Rattle.lists.proofs.Alls.{all_append, all-append-left, all-append-right, length-flatten}
use Rattle.lists.proofs.Counts.{flatten-append}
use Rattle.packing.specs.Rows.{rows_at}
use Rattle.packing.proofs.RowsAt.{length-rows_at, flatten-rows_at, rows_at-lengths, rows_at-flatten}
use Rattle.layers.specs.Answers.{no_head}
use Rattle.layers.specs.Layers.{Layer, blocks_at, sizes, all_rows, heads_of, layers_at}
use Rattle.layers.specs.declared.LayerHead.{LayerHead}

pub heads_of-layers_at : (r : ℕ) (heads : List LayerHead) (s : List ℕ) → heads_of (layers_at r heads s) ≡ heads
unfolding layers_at
heads_of-layers_at r [] s = refl
heads_of-layers_at r (head ∷ heads) s =
    rw (length-rows_at r head.size s, heads_of-layers_at r heads (drop (head.size * r) s))

-- the layers' rows one after another are the bytes that the layers were taken from
pub flatten-layers_at : (r : ℕ) (heads : List LayerHead) (s : List ℕ)
    → flatten (all_rows (layers_at r heads s)) ≡ take (sizes heads * r) s
unfolding layers_at flatten total
flatten-layers_at r [] s = rw zero-mul
flatten-layers_at r (head ∷ heads) s =
    let a = rows_at r head.size s in
    let rest = layers_at r heads (drop (head.size * r) s) in
    let e : (head.size + sizes heads) * r ≡ head.size * r + sizes heads * r = omega arith in
    rw (
      flatten-append a (all_rows rest),
      flatten-rows_at r head.size s,
      flatten-layers_at r heads (drop (head.size * r) s),
      e,
      take-add (head.size * r) (sizes heads * r) s,
    )

pub layers_at-lengths : (r : ℕ) (heads : List LayerHead) (s : List ℕ) → sizes heads * r ≤ length s
    → All (λ row. length row ≡ r) (all_rows (layers_at r heads s))
unfolding layers_at flatten total
layers_at-lengths r [] s h = tt
layers_at-lengths r (head ∷ heads) s h =
    all_append
    (λ row. length row ≡ r)
    (rows_at r head.size s)
    (all_rows (layers_at r heads (drop (head.size * r) s)))
    (rows_at-lengths r head.size s (omega arith))
    (layers_at-lengths r heads (drop (head.size * r) s) (rw length-drop (omega arith)))

-- and layers whose rows have r nodes each are what their rows one after another are taken apart into
pub layers_at-flatten : (r : ℕ) (layers : List Layer) (t : List ℕ) → All (λ row. length row ≡ r) (all_rows layers)
    → layers_at r (heads_of layers) (flatten (all_rows layers) ++ t) ≡ layers
unfolding layers_at flatten
layers_at-flatten r [] t h = refl
layers_at-flatten r (layer ∷ layers) t h =
    let first = all-append-left (λ row. length row ≡ r) layer.rows (all_rows layers) h in
    let rest = all-append-right (λ row. length row ≡ r) layer.rows (all_rows layers) h in
    let after = flatten (all_rows layers) ++ t in
    rw (
      flatten-append layer.rows (all_rows layers),
      append_assoc (flatten layer.rows) (flatten (all_rows layers)) t,
      rows_at-flatten r layer.rows after first,
      drop_at (flatten layer.rows) after (length layer.rows * r) (length-flatten r layer.rows first),
      layers_at-flatten r layers t rest,
    )

-- the blocks of layer x begin after those of the layers below it
pub blocks_at-layers_at : (r : ℕ) (heads : List LayerHead) (s : List ℕ) (x : ℕ)
    → (blocks_at (layers_at r heads s) x).rows ≡ rows_at r (get_or heads x no_head).size (drop (sizes (take x heads) * r) s)
unfolding layers_at total rows_at
blocks_at-layers_at r [] s x = refl
blocks_at-layers_at r (head ∷ heads) s zero = rw (zero-mul r)
blocks_at-layers_at r (head ∷ heads) s (suc x) =
    let e : head.size * r + sizes (take x heads) * r ≡ (head.size + sizes (take x heads)) * r = omega arith in
    blocks_at-layers_at r heads (drop (head.size * r) s) x
    ∙ rw (drop-drop (sizes (take x heads) * r) (head.size * r) s, e)
