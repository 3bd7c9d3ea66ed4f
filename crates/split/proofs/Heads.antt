-- The heads of a split, one layer more at a time: its sizes, its losses, and splits that agree. Assumes nothing.
use Prim.Native.Nat.{ℕ, zero, suc, ◌+◌, ◌*◌, ◌-◌, ◌≤◌, ◌<◌}
use native.Mathlib.Nat.{not-suc-le-zero, le_of_suc-le-suc, zero-add, eq-or-lt_of_le}
use native.Mathlib.Omega.{arith}
use mathlib.Core.Path.{◌≡◌, ◌∙◌, ap}
use mathlib.Core.Logic.{◌⊎◌, inl, inr}
use mathlib.Core.List.{List, [], ◌∷◌, ◌++◌}
use lib.ListN.{length}
use Rattle.lists.specs.Lists.{total}
use Rattle.lists.proofs.UpTo.{map-up_to-suc, length-map-up_to, map-up_to-congr}
use Rattle.layers.specs.Layers.{sizes}
use Rattle.layers.specs.declared.LayerHead.{LayerHead}
use Rattle.placement.specs.declared.Rule.{Rule}
use Rattle.placement.specs.Figure.{loss, losses}
use Rattle.split.specs.Splits.{Share, Split, layer_at, share_head, split_heads}
use Rattle.split.proofs.Losses.{losses-append, sizes-append}

module _ (layers : List LayerHead) where
  pub split_heads-suc : (x : ℕ) (split : ℕ → Share)
      → split_heads layers (suc x) split ≡ split_heads layers x split ++ (share_head (layer_at layers x) (split x) ∷ [])
  split_heads-suc x split = map-up_to-suc (λ y. share_head (layer_at layers y) (split y)) x

  pub length-split_heads : (x : ℕ) (split : ℕ → Share) → length (split_heads layers x split) ≡ x
  length-split_heads x split = length-map-up_to (λ y. share_head (layer_at layers y) (split y)) x

  pub sizes-suc : (x : ℕ) (split : ℕ → Share) → sizes (split_heads layers (suc x) split) ≡ sizes (split_heads layers x split) + (split x).count
  unfolding total
  sizes-suc x split =
      ap sizes (split_heads-suc x split)
      ∙ sizes-append (split_heads layers x split) (share_head (layer_at layers x) (split x) ∷ [])
      ∙ omega arith

  pub losses-suc : (rule : Rule) (s k x : ℕ) (split : ℕ → Share)
      → losses rule s k 0 (split_heads layers (suc x) split) ≡ losses rule s k 0 (split_heads layers x split) + loss rule s k x
      (share_head (layer_at layers x) (split x))
  unfolding losses
  losses-suc rule s k x split =
      ap (losses rule s k 0) (split_heads-suc x split)
      ∙ losses-append rule s k 0 (split_heads layers x split) (share_head (layer_at layers x) (split x) ∷ [])
      ∙ (let e : 0 + length (split_heads layers x split) ≡ x = zero-add _ ∙ length-split_heads x split in rw e (omega arith))

  -- splits that agree below x have the same heads
  pub split_heads-congr : (x : ℕ) (a b : ℕ → Share) → ((y : ℕ) → y < x → a y ≡ b y) → split_heads layers x a ≡ split_heads layers x b
  split_heads-congr x a b h =
      map-up_to-congr _ _ x (λ y g. ap (share_head (layer_at layers y)) (h y g))

  -- the part of a split below its last layer
  pub split-last-le : (x b : ℕ) (split : ℕ → Share) → Split layers (suc x) b split → (split x).count ≤ b
  split-last-le x b split h = let e = sizes-suc x split in let g = h.sum in omega arith

  pub split-init : (x b : ℕ) (split : ℕ → Share) → Split layers (suc x) b split → Split layers x (b - (split x).count) split
  split-init x b split h =
      record {
        held = λ y g. h.held y (omega arith);
        sum = let e = sizes-suc x split in let g = h.sum in omega arith;
      }

  -- a split of one layer more
  pub split-snoc : (x b : ℕ) (a split : ℕ → Share) → Split layers x (b - (split x).count) a → ((y : ℕ) → y < x → split y ≡ a y)
      → (split x).count ≤ b → (split x).count ≤ (split x).copies * (layer_at layers x).size → Split layers (suc x) b split
  split-snoc x b a split h agree fits last =
      record {
        held = λ y g. held_at y (eq-or-lt_of_le (le_of_suc-le-suc g));
        sum =
            let e = sizes-suc x split in
            let q = ap sizes (split_heads-congr x split a agree) in
            let g = h.sum in
            omega arith;
      }
    where
      held_at : (y : ℕ) → (y ≡ x) ⊎ (y < x) → (split y).count ≤ (split y).copies * (layer_at layers y).size
      held_at y (inl e) = rw e last
      held_at y (inr g) = rw (agree y g) (h.held y g)

  -- each count is at most the records
  pub split-count-le : (s b : ℕ) (split : ℕ → Share) → Split layers s b split → (x : ℕ) → x < s → (split x).count ≤ b
  split-count-le zero b split h x l = absurd (not-suc-le-zero l)
  split-count-le (suc s) b split h x l = go (eq-or-lt_of_le (le_of_suc-le-suc l))
      (split-count-le s (b - (split s).count) split (split-init s b split h) x)
    where
      go : (x ≡ s) ⊎ (x < s) → (x < s → (split x).count ≤ b - (split s).count) → (split x).count ≤ b
      go (inl e) ih = rw e (split-last-le s b split h)
      go (inr g) ih = let i = ih g in omega arith
