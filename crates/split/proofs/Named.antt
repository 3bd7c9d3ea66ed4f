-- Demand 3, the split: the computed split is the one that document 01 names, and there is no other. Assumes nothing.
use Prim.Native.Nat.{ℕ, zero, suc, ◌*◌, ◌≤◌, ◌<◌}
use native.Mathlib.Nat.{le_antisymm, eq-or-lt_of_le, le_of_suc-le-suc, not-suc-le-zero}
use native.Mathlib.Omega.{arith}
use mathlib.Core.Path.{◌≡◌, sym, ap₂}
use mathlib.Core.Logic.{◌⊎◌, inl, inr}
use mathlib.Core.List.{List}
use lib.ListN.{get_or}
use lib.Dec.{T}
use Rattle.layers.specs.declared.LayerHead.{LayerHead}
use Rattle.placement.specs.declared.Rule.{Rule}
use Rattle.placement.specs.Figure.{losses, figure_of}
use Rattle.split.specs.Splits.{Share, Split, Named, Foremost, layer_at, split_heads, split_figure, no_split, least_loss, named_counts, named_split, has_block}
use Rattle.split.proofs.Copies.{copies_for-least}
use Rattle.placement.proofs.Losses.{losses-le-sizes}
use Rattle.split.proofs.LeastLoss.{least_loss-le-losses, least_loss-le-self}
use Rattle.split.proofs.NamedCounts.{named_below-split, named_below-losses, named_below-foremost}

-- a split loses at most its records
pub losses-le-split : (rule : Rule) (layers : List LayerHead) (s k b : ℕ) (split : ℕ → Share) → Split layers s b split
    → losses rule s k 0 (split_heads layers s split) ≤ b
losses-le-split rule layers s k b split h =
    let g = losses-le-sizes rule s k 0 (split_heads layers s split) in
    let e = h.sum in
    omega arith

module _ (rule : Rule) (layers : List LayerHead) (s k b : ℕ) (small : b ≤ 4_096) (block : T (has_block layers s)) where
  -- with a block below s the least loss is that of a split
  pub least_loss-lt-no_split : least_loss rule layers s k s b < no_split
  least_loss-lt-no_split = let h = least_loss-le-self rule layers s k s b block in omega arith

  -- "with c at most d × m and the counts summing to b"
  pub named_split-is-split : Split layers s b (named_split rule layers s k b)
  unfolding named_split
  named_split-is-split = named_below-split rule layers s k s b least_loss-lt-no_split

  pub named_split-losses : losses rule s k 0 (split_heads layers s (named_split rule layers s k b)) ≡ least_loss rule layers s k s b
  unfolding named_split
  named_split-losses = named_below-losses rule layers s k s b least_loss-lt-no_split

  -- "the splits with the highest figure"
  pub named-highest : (other : ℕ → Share) → Split layers s b other
      → split_figure rule layers s k b other ≤ split_figure rule layers s k b (named_split rule layers s k b)
  unfolding figure_of
  named-highest other h =
      let e = named_split-losses in
      let g = least_loss-le-losses rule layers s k s b other h in
      omega arith

  -- "the largest c in layer s-1, then in layer s-2, down to 0"
  pub named-foremost : (other : ℕ → Share) → Split layers s b other
      → split_figure rule layers s k b other ≡ split_figure rule layers s k b (named_split rule layers s k b)
      → Foremost s (named_split rule layers s k b) other
  unfolding figure_of named_split
  named-foremost other h same =
      let e = named_below-losses rule layers s k s b least_loss-lt-no_split in
      let g = losses-le-split rule layers s k b other h in
      let l = least_loss-le-self rule layers s k s b block in
      named_below-foremost rule layers s k s b other h (omega arith)

  -- "with the least d for each c"
  pub named-least-copies : (x d : ℕ) → x < s → (named_split rule layers s k b x).count ≤ d * (layer_at layers x).size → (named_split rule layers s k b x).copies ≤ d
  unfolding named_split
  named-least-copies x d h g = copies_for-least (get_or (named_counts rule layers s k s b) x 0) (layer_at layers x).size d g

  -- the computed split is the one that document 01 names
  pub named : Named rule layers s k b (named_split rule layers s k b)
  named =
      record {
        is-split = named_split-is-split;
        highest = named-highest;
        foremost = named-foremost;
        least-copies = named-least-copies;
      }

-- two splits of which each comes no later than the other have the same counts
pub foremost-antisymm : (s : ℕ) (a b : ℕ → Share) → Foremost s a b → Foremost s b a → (x : ℕ) → x < s → (a x).count ≡ (b x).count
foremost-antisymm zero a b f g x h = absurd (not-suc-le-zero h)
foremost-antisymm (suc s) a b (inl f) (inl g) x h = absurd (omega arith)
foremost-antisymm (suc s) a b (inl f) (inr g) x h = absurd (omega arith)
foremost-antisymm (suc s) a b (inr f) (inl g) x h = absurd (omega arith)
foremost-antisymm (suc s) a b (inr f) (inr g) x h =
    go (eq-or-lt_of_le (le_of_suc-le-suc h)) (foremost-antisymm s a b f.1 g.1 x)
  where
    go : (x ≡ s) ⊎ (x < s) → (x < s → (a x).count ≡ (b x).count) → (a x).count ≡ (b x).count
    go (inl e) ih = rw e g.0
    go (inr l) ih = ih l

share-ext : (p q : Share) → p.count ≡ q.count → p.copies ≡ q.copies → p ≡ q
share-ext p q e f = ap₂ {C = Share} (λ c d. record { count = c; copies = d }) e f

-- the least copies for the same count, each held by the other's
copies-le : (rule : Rule) (layers : List LayerHead) (s k b : ℕ) (a a' : ℕ → Share) → Named rule layers s k b a → Split layers s b a' → (x : ℕ) → x < s
    → (a x).count ≡ (a' x).count → (a x).copies ≤ (a' x).copies
copies-le rule layers s k b a a' n h x l e = n.least-copies x (a' x).copies l (rw e (h.held x l))

-- document 01 names one split
pub named-unique : (rule : Rule) (layers : List LayerHead) (s k b : ℕ) (a a' : ℕ → Share) → Named rule layers s k b a → Named rule layers s k b a' → (x : ℕ)
    → x < s → a x ≡ a' x
named-unique rule layers s k b a a' n n' x h =
    let same = le_antisymm (n.highest a' n'.is-split) (n'.highest a n.is-split) in
    let e = foremost-antisymm s a a' (n.foremost a' n'.is-split same) (n'.foremost a n.is-split (sym same)) x h in
    let p = copies-le rule layers s k b a a' n n'.is-split x h e in
    let q = copies-le rule layers s k b a' a n' n.is-split x h (sym e) in
    share-ext (a x) (a' x) e (le_antisymm p q)
