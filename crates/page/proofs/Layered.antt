-- The layer of a record: the one whose row it is, also in the code's array of five. Assumes nothing.
use Prim.Native.Nat.{ℕ, suc, ◌+◌, ◌-◌, ◌≤◌, ◌<◌}
use native.Mathlib.Omega.{arith}
use native.Mathlib.Numerals.{add-one}
use native.Mathlib.Nat.{not-suc-le-zero}
use mathlib.Core.Path.{◌≡◌, refl, sym, ◌∙◌, ap}
use mathlib.Core.Bool.{Bool, true, false, cond}
use mathlib.Core.List.{List, [], ◌∷◌, ◌++◌, flatten}
use lib.ListN.{length, drop, get_or, take-append-drop, drop_of_length-le, get_or-append}
use lib.Seq.{drop-cons, get_or-append-add}
use lib.Dec.{ltb}
use borrow.Author.Tests.{ltb-true, ltb-false, lt-ltb, le-ltb}
use Rattle.lists.specs.Lists.{total}
use Rattle.lists.proofs.Tests.{cond-elim}
use Rattle.layers.specs.Layers.{Layer, all_rows, heads_of, sizes}
use Rattle.layers.specs.Answers.{no_head, five_heads}
use Rattle.layers.specs.declared.LayerHead.{LayerHead}
use Rattle.layers.proofs.Arrays.{take-five}
use Rattle.page.specs.Page.{layer_of, InLayer}

pub layer_of-le : (x : ℕ) (heads : List LayerHead) (i : ℕ) → layer_of x heads i ≤ x + length heads
unfolding layer_of
layer_of-le x [] i = omega arith
layer_of-le x (head ∷ heads) i =
    let rest = layer_of-le (suc x) heads (i - head.size) in
    cond-elim (λ y. y ≤ x + suc (length heads)) (ltb i head.size) (λ e. omega arith) (λ e. omega arith)

layer_of-suc : (x : ℕ) (heads : List LayerHead) (i : ℕ) → layer_of (suc x) heads i ≡ suc (layer_of x heads i)
unfolding layer_of
layer_of-suc x [] i = refl
layer_of-suc x (head ∷ heads) i = go (ltb i head.size) (layer_of-suc (suc x) heads (i - head.size))
  where
    go : (t : Bool) → layer_of (suc (suc x)) heads (i - head.size) ≡ suc (layer_of (suc x) heads (i - head.size))
        → cond t (suc x) (layer_of (suc (suc x)) heads (i - head.size)) ≡ suc (cond t x (layer_of (suc x) heads (i - head.size)))
    go true e = refl
    go false e = e

-- layers after those that hold the record don't matter
layer_of-append : (x : ℕ) (heads more : List LayerHead) (i : ℕ) → i < sizes heads → layer_of x (heads ++ more) i ≡ layer_of x heads i
unfolding layer_of total
layer_of-append x [] more i h = absurd (not-suc-le-zero h)
layer_of-append x (head ∷ heads) more i h =
    go (ltb i head.size) refl (λ less. layer_of-append (suc x) heads more (i - head.size) less)
  where
    go : (t : Bool) → ltb i head.size ≡ t
        → (i - head.size < sizes heads → layer_of (suc x) (heads ++ more) (i - head.size) ≡ layer_of (suc x) heads (i - head.size))
        → cond t x (layer_of (suc x) (heads ++ more) (i - head.size)) ≡ cond t x (layer_of (suc x) heads (i - head.size))
    go true e rest = refl
    go false e rest = let g = ltb-false i head.size e in rest (omega arith)

pub layer_of-five : (heads : List LayerHead) (i : ℕ) → length heads ≤ 5 → i < sizes heads
    → layer_of 0 (five_heads heads) i ≡ layer_of 0 heads i
layer_of-five heads i few h =
    let n = length heads in
    let whole : five_heads heads ≡ heads ++ drop n (five_heads heads) =
    sym (take-append-drop n (five_heads heads)) ∙ ap (λ l. l ++ drop n (five_heads heads)) (take-five no_head heads n refl few) in
    ap (λ l. layer_of 0 l i) whole ∙ layer_of-append 0 heads (drop n (five_heads heads)) i h

-- the record's row is one of that layer's, "layer by layer"
pub layer_of-holds : (layers : List Layer) (i : ℕ) → i < sizes (heads_of layers) → InLayer layers i (layer_of 0 (heads_of layers) i)
unfolding layer_of total flatten
layer_of-holds [] i h = absurd (not-suc-le-zero h)
layer_of-holds (layer ∷ layers) i h =
    go (ltb i (length layer.rows)) refl (λ less. layer_of-holds layers (i - length layer.rows) less)
  where
    go : (t : Bool) → ltb i (length layer.rows) ≡ t
        → (i - length layer.rows < sizes (heads_of layers)
        → InLayer layers (i - length layer.rows) (layer_of 0 (heads_of layers) (i - length layer.rows)))
        → InLayer (layer ∷ layers) i (cond t 0 (layer_of 1 (heads_of layers) (i - length layer.rows)))
    go true e rest =
        let lt = ltb-true i (length layer.rows) e in
        record {
          there = omega arith;
          row = i;
          counted = omega arith;
          inside = lt;
          same = get_or-append layer.rows (all_rows layers) [] i lt;
        }
    go false e rest =
        let g = ltb-false i (length layer.rows) e in
        let r = rest (omega arith) in
        let q : length layer.rows + (i - length layer.rows) ≡ i = omega arith in
        rw (layer_of-suc 0 (heads_of layers) (i - length layer.rows))
        (record {
          there = omega (arith, r.there);
          row = r.row;
          counted = omega (arith, r.counted);
          inside = r.inside;
          same =
              ap (λ j. get_or (layer.rows ++ all_rows layers) j []) (sym q)
              ∙ get_or-append-add layer.rows (all_rows layers) (i - length layer.rows) []
              ∙ r.same;
        })

-- the search from layer x on, as the code goes: it ends at the layer, or goes on behind it
module _ (heads : List LayerHead) (x left : ℕ) where
  pub layer-found : x < length heads → left < (get_or heads x no_head).size → layer_of x (drop x heads) left ≡ x
  unfolding layer_of
  layer-found h less = rw (drop-cons heads x no_head h, lt-ltb left (get_or heads x no_head).size less)

  pub layer-after : x < length heads → (get_or heads x no_head).size ≤ left
      → layer_of x (drop x heads) left ≡ layer_of (x + 1) (drop (x + 1) heads) (left - (get_or heads x no_head).size)
  unfolding layer_of
  layer-after h more = rw (add-one x, drop-cons heads x no_head h, le-ltb left (get_or heads x no_head).size more)

  pub layer-none : length heads ≤ x → layer_of x (drop x heads) left ≡ x
  unfolding layer_of
  layer-none h = rw (drop_of_length-le heads {i = x} h)
