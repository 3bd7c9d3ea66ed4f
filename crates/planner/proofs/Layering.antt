-- The rows of layers written one after another to a slice. Assumes nothing.
use Prim.Native.Nat.{ℕ, zero, suc, ◌+◌, ◌*◌, ◌-◌, ◌≤◌, ◌<◌}
use native.Mathlib.Omega.{arith}
use native.Mathlib.Numerals.{add-one}
use native.Mathlib.Nat.{le_refl, mul-le-mul}
use mathlib.Core.Path.{◌≡◌, refl, sym, ◌∙◌, ap}
use mathlib.Core.List.{List, [], ◌∷◌, ◌++◌, flatten, map, append-nil}
use lib.ListN.{length, take, drop, length-append, length-drop}
use lib.Seq.{take-take, get_or-take}
use Rattle.lists.proofs.Alls.{length-flatten}
use Rattle.lists.specs.Lists.{total, up_to, over_start}
use Rattle.lists.proofs.Counts.{flatten-append}
use Rattle.lists.proofs.UpTo.{map-up_to-suc}
use Rattle.lists.proofs.Writing.{given_back, take-drop-rest, write-part}
use Rattle.packing.specs.Rows.{rows_at, repeated}
use Rattle.packing.proofs.Copies.{repeated-rows, length-repeated}
use Rattle.packing.proofs.RowsAt.{length-rows_at, rows_at-lengths}
use Rattle.layers.specs.Layers.{Layer, blocks_at, sizes, heads_of}
use Rattle.layers.specs.declared.LayerHead.{LayerHead}
use Rattle.layers.proofs.Arrays.{sizes-take-suc, sizes-take-le}
use Rattle.layers.proofs.Layouts.{heads_of-layers_at, blocks_at-layers_at}
use Rattle.split.specs.Splits.{layer_at}
use Rattle.planner.specs.Writing.{held_layers, rows_below, RowsFit}

-- layer x below r of the code's five: its two numbers, and its blocks
module _ (r : ℕ) (layers : List LayerHead) (blocks : List ℕ) (x : ℕ) (h : x < r) where
  layer_at-take : layer_at (take r layers) x ≡ layer_at layers x
  layer_at-take = get_or-take r layers x _ h

  pub layer_at-held : layer_at (heads_of (held_layers r layers blocks)) x ≡ layer_at layers x
  layer_at-held = ap (λ (l : List LayerHead). layer_at l x) (heads_of-layers_at r (take r layers) blocks) ∙ layer_at-take

  pub blocks_at-held : (blocks_at (held_layers r layers blocks) x).rows ≡ rows_at r (layer_at layers x).size (drop (sizes (take x layers) * r) blocks)
  blocks_at-held =
      blocks_at-layers_at r (take r layers) blocks x
      ∙ rw (layer_at-take, take-take x r layers (omega arith))

-- the layers below x and the one at x, r bytes a row, are within all
below-fits : (heads : List LayerHead) (r x s : ℕ) → x < s → sizes (take x heads) * r + (layer_at heads x).size * r ≤ sizes (take s heads) * r
below-fits heads r x s h =
    let m = mul-le-mul (sizes-take-le heads (x + 1) s (omega arith)) (le_refl r) in
    omega (arith, rw (sizes-take-suc heads x) at m)

-- c rows of r bytes each take c × r bytes
length-repeated-rows : (r n c : ℕ) (blocks : List ℕ) → n * r ≤ length blocks → (0 < c → 0 < n)
    → length (flatten (repeated (rows_at r n blocks) c)) ≡ c * r
length-repeated-rows r n c blocks fits some =
    length-flatten r (repeated (rows_at r n blocks) c)
    (repeated-rows (λ row. length row ≡ r) c c (rows_at r n blocks) (rw (length-rows_at r n blocks) (enough c some)) (rows_at-lengths r n blocks fits))
    ∙ ap (λ l. l * r) (length-repeated (rows_at r n blocks) c)
  where
    enough : (c : ℕ) → (0 < c → 0 < n) → c ≤ c * n
    enough zero h = omega arith
    enough (suc c) h = let m = mul-le-mul (le_refl (suc c)) (h (omega arith)) in omega arith

-- the rows of layer x
abbrev layer_rows : (blocks : List Layer) (heads : List LayerHead) (x : ℕ) → List (List ℕ)
layer_rows blocks heads x = repeated (blocks_at blocks x).rows (layer_at heads x).size

rows_below-suc : (blocks : List Layer) (heads : List LayerHead) (x : ℕ)
    → rows_below blocks heads (suc x) ≡ rows_below blocks heads x ++ flatten (layer_rows blocks heads x)
unfolding flatten
rows_below-suc blocks heads x =
    let f = layer_rows blocks heads in
    ap (λ (l : List (List (List ℕ))). flatten (flatten l)) (map-up_to-suc f x)
    ∙ ap flatten (flatten-append (map f (up_to x)) (f x ∷ []) ∙ ap (λ (l : List (List ℕ)). flatten (map f (up_to x)) ++ l) (append-nil (f x)))
    ∙ flatten-append (flatten (map f (up_to x))) (f x)

-- each layer's rows, and those of the layers below x, take r bytes a record
module _ {r s : ℕ} {layers heads : List LayerHead} {blocks out : List ℕ} (fit : RowsFit r s layers heads blocks out) where
  abbrev held : List Layer
  held = held_layers r layers blocks

  length-layer_rows : (x : ℕ) → x < s → length (flatten (layer_rows held heads x)) ≡ (layer_at heads x).size * r
  length-layer_rows x h =
      rw (blocks_at-held r layers blocks x (omega (arith, fit.s-below)))
      (length-repeated-rows r (layer_at layers x).size (layer_at heads x).size (drop (sizes (take x layers) * r) blocks)
      (rw (length-drop (sizes (take x layers) * r) blocks) (omega (arith, below-fits layers r x s h, fit.blocks-fit)))
      (fit.some-blocks x h))

  pub length-rows_below : (x : ℕ) → x ≤ s → length (rows_below held heads x) ≡ sizes (take x heads) * r
  unfolding flatten up_to total
  length-rows_below zero h = omega arith
  length-rows_below (suc x) h =
      rw (
        rows_below-suc held heads x,
        length-append (rows_below held heads x),
        length-rows_below x (omega arith),
        length-layer_rows x h,
        ← add-one x,
        sizes-take-suc heads x,
      )
      (omega arith)

-- The rows of the layers below x are written. The next layer's begin at byte `to`, and its blocks at byte `from`; from `to`
-- on the bytes are as they were.
pub record LayersWritten (r s : ℕ) (layers heads : List LayerHead) (blocks out₀ out : List ℕ) (to from x : ℕ) : Type 0 where
  pub within : x ≤ s
  pub place : to ≡ sizes (take x heads) * r
  pub source : from ≡ sizes (take x layers) * r
  pub same : length out ≡ length out₀
  pub bytes : out ≡ rows_below (held_layers r layers blocks) heads x ++ drop to out₀

pub layers-none : (r s : ℕ) (layers heads : List LayerHead) (blocks out : List ℕ)
    → LayersWritten r s layers heads blocks out out 0 0 0
unfolding flatten up_to total
layers-none r s layers heads blocks out =
    record { within = omega arith; place = omega arith; source = omega arith; same = refl; bytes = refl }

module _ {r s : ℕ} {layers heads : List LayerHead} {blocks out₀ out : List ℕ} {to from x : ℕ}
    (w : LayersWritten r s layers heads blocks out₀ out to from x) (fit : RowsFit r s layers heads blocks out₀) where
  -- what is written, the next layer's rows, and both
  abbrev rows : ℕ → List ℕ
  rows y = rows_below (held_layers r layers blocks) heads y

  abbrev layer : List ℕ
  layer = flatten (layer_rows (held_layers r layers blocks) heads x)

  taken : length (rows x) ≡ to
  taken = length-rows_below fit x w.within ∙ sym w.place

  -- in a turn
  module _ (h : x < s) where
    pub layer_fits : to + (layer_at heads x).size * r ≤ length out
    layer_fits = omega (arith, below-fits heads r x s h, w.place, w.same, fit.rows_fit)

    pub blocks-within : from + (layer_at layers x).size * r ≤ length blocks
    blocks-within = omega (arith, below-fits layers r x s h, w.source, fit.blocks-fit)

    -- what writing the layer's rows asks of the parts that are lent
    pub lent-fit : ((layer_at heads x).size * r ≤ length (take (length out - to) (drop to out)))
        × (((layer_at layers x).size * r ≤ length (take (length blocks - from) (drop from blocks)))
        × (0 < (layer_at heads x).size → 0 < (layer_at layers x).size))
    lent-fit = (
      rw (take-drop-rest out to, length-drop to out) (omega (arith, layer_fits)),
      (rw (take-drop-rest blocks from, length-drop from blocks) (omega (arith, blocks-within)), fit.some-blocks x h),
    )

    length-layer : length layer ≡ (layer_at heads x).size * r
    length-layer = length-layer_rows fit x h

    module _ (last : List ℕ)
        (e : last
        ≡ flatten (repeated (rows_at r (layer_at layers x).size (take (length blocks - from) (drop from blocks))) (layer_at heads x).size)
        ++ drop ((layer_at heads x).size * r) (take (length out - to) (drop to out))) where
      wrote : given_back out to last ≡ rows x ++ layer ++ drop (to + length layer) out₀
      wrote =
          write-part (rows x) layer out₀ out last to taken w.bytes
          (e ∙ rw (take-drop-rest blocks from, w.source, length-layer, blocks_at-held r layers blocks x (omega (arith, fit.s-below))))

      next-bytes : given_back out to last ≡ rows (x + 1) ++ drop (to + (layer_at heads x).size * r) out₀
      next-bytes = wrote ∙ rw (length-layer, add-one x, rows_below-suc (held_layers r layers blocks) heads x)

      next-taken : length (rows (x + 1)) ≡ to + (layer_at heads x).size * r
      next-taken =
          rw (add-one x, rows_below-suc (held_layers r layers blocks) heads x, length-append (rows x), taken, length-layer)

      pub layers-next : LayersWritten r s layers heads blocks out₀ (given_back out to last) (to + (layer_at heads x).size * r)
          (from + (layer_at layers x).size * r) (x + 1)
      layers-next = record {
        within = omega arith;
        place = rw (sizes-take-suc heads x) (omega (arith, w.place));
        source = rw (sizes-take-suc layers x) (omega (arith, w.source));
        same = ap length next-bytes ∙ simp (length-append, length-drop) (omega (arith, next-taken, layer_fits, w.same));
        bytes = next-bytes;
      }

  pub layers-all : s ≤ x → out ≡ over_start (rows s) out₀
  layers-all h =
      let all : x ≡ s = omega (arith, w.within) in
      let e : out ≡ over_start (rows x) out₀ = rw taken w.bytes in
      rw (← all) e
