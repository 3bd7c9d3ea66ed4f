-- The counts that the planner chooses for the layers below x: they are a split, and lose the least. Assumes nothing.
use Prim.Native.Nat.{ℕ, zero, suc, ◌-◌, ◌≤◌, ◌<◌}
use native.Mathlib.Nat.{lt-suc_self, not-suc-le-zero, eq-or-lt_of_le}
use native.Mathlib.Omega.{arith}
use mathlib.Core.Path.{◌≡◌, refl, sym, ◌∙◌, ap}
use mathlib.Core.Logic.{◌⊎◌, inl, inr}
use mathlib.Core.List.{List, [], ◌∷◌, ◌++◌}
use lib.ListN.{length, get_or, length-append, get_or-append}
use lib.Seq.{get_or_at}
use Rattle.lists.specs.Lists.{total, up_to}
use Rattle.layers.specs.declared.LayerHead.{LayerHead}
use Rattle.placement.specs.declared.Rule.{Rule}
use Rattle.placement.specs.Figure.{losses}
use Rattle.split.specs.Splits.{Share, Split, Foremost, layer_at, split_heads, share_of, counts_split}
use Rattle.split.specs.Splits.{no_split, loss_of, least_loss, best_count, named_counts}
use Rattle.split.proofs.LossOf.{loss_of-lt, loss_of-le-loss_with}
use Rattle.split.proofs.Heads.{losses-suc, split_heads-congr, split-last-le, split-init, split-snoc}
use Rattle.split.proofs.LeastLoss.{best_count-le, loss_at-best_count, le-best_count, least_loss-suc-le, least_loss-zero-lt, least_loss-zero-zero, least_loss-le-losses}

-- Foremost speaks of the layers below x only
pub foremost-congr : (x : ℕ) (a b other : ℕ → Share) → ((y : ℕ) → y < x → a y ≡ b y) → Foremost x b other → Foremost x a other
foremost-congr zero a b other h f = tt
foremost-congr (suc x) a b other h (inl g) = inl (rw (h x (lt-suc_self x)) g)
foremost-congr (suc x) a b other h (inr g) =
    inr (g.0 ∙ sym (ap (λ share. share.count) (h x (lt-suc_self x))), foremost-congr x a b other (λ y l. h y (omega arith)) g.1)

module _ (rule : Rule) (layers : List LayerHead) (s k : ℕ) where
  -- the chosen split of the layers below x
  abbrev pub named_below : (x b : ℕ) → ℕ → Share
  named_below x b = counts_split layers (named_counts rule layers s k x b)

  pub named_counts-suc : (x b : ℕ) → named_counts rule layers s k (suc x) b
      ≡ named_counts rule layers s k x (b - best_count rule layers s k x b) ++ (best_count rule layers s k x b ∷ [])
  unfolding named_counts
  named_counts-suc x b = refl

  pub length-named_counts : (x b : ℕ) → length (named_counts rule layers s k x b) ≡ x
  unfolding named_counts
  length-named_counts zero b = refl
  length-named_counts (suc x) b = simp (length-append, length-named_counts x) (omega arith)

  -- its last layer, and those below
  pub named_counts-last : (x b : ℕ) → get_or (named_counts rule layers s k (suc x) b) x 0 ≡ best_count rule layers s k x b
  unfolding named_counts
  named_counts-last x b =
      let c = best_count rule layers s k x b in
      get_or_at (named_counts rule layers s k x (b - c)) c [] 0 x (length-named_counts x (b - c))

  pub named_below-init : (x b y : ℕ) → y < x → named_below (suc x) b y ≡ named_below x (b - best_count rule layers s k x b) y
  unfolding named_counts
  named_below-init x b y h =
      let c = best_count rule layers s k x b in
      let e = length-named_counts x (b - c) in
      ap (share_of (layer_at layers y)) (get_or-append (named_counts rule layers s k x (b - c)) (c ∷ []) 0 y (omega arith))

  -- where the least loss is below the mark, both its parts are
  loss_of-best_count-lt : (x b : ℕ) → least_loss rule layers s k (suc x) b < no_split → loss_of rule layers s k x (best_count rule layers s k x b) < no_split
  loss_of-best_count-lt x b h = let e = loss_at-best_count rule layers s k x b in omega arith

  least_loss-rest-lt : (x b : ℕ) → least_loss rule layers s k (suc x) b < no_split → least_loss rule layers s k x (b - best_count rule layers s k x b) < no_split
  least_loss-rest-lt x b h = let e = loss_at-best_count rule layers s k x b in omega arith

  -- "with c at most d × m and the counts summing to b"
  pub named_below-split : (x b : ℕ) → least_loss rule layers s k x b < no_split → Split layers x b (named_below x b)
  unfolding up_to total
  named_below-split zero b h =
      record { held = λ y g. absurd (not-suc-le-zero g); sum = sym (least_loss-zero-lt rule layers s k b h) }
  named_below-split (suc x) b h =
      let c = best_count rule layers s k x b in
      let e = named_counts-last x b in
      let held = (loss_of-lt rule layers s k x c (loss_of-best_count-lt x b h)).0 in
      split-snoc layers x b (named_below x (b - c)) (named_below (suc x) b)
      (rw e (named_below-split x (b - c) (least_loss-rest-lt x b h)))
      (named_below-init x b)
      (rw e (best_count-le rule layers s k x b))
      (rw e held)

  -- its losses are the least
  pub named_below-losses : (x b : ℕ) → least_loss rule layers s k x b < no_split
      → losses rule s k 0 (split_heads layers x (named_below x b)) ≡ least_loss rule layers s k x b
  unfolding up_to losses
  named_below-losses zero b h = rw (least_loss-zero-lt rule layers s k b h) (sym (least_loss-zero-zero rule layers s k))
  named_below-losses (suc x) b h =
      let c = best_count rule layers s k x b in
      let ih = named_below-losses x (b - c) (least_loss-rest-lt x b h) in
      let l = (loss_of-lt rule layers s k x c (loss_of-best_count-lt x b h)).1 in
      let e = loss_at-best_count rule layers s k x b in
      losses-suc layers rule s k x (named_below (suc x) b)
      ∙ (rw (split_heads-congr layers x (named_below (suc x) b) (named_below x (b - c)) (named_below-init x b), named_counts-last x b) (omega arith))

  -- "the largest c in layer s-1, then in layer s-2, down to 0", of the splits that lose no more
  pub named_below-foremost : (x b : ℕ) (other : ℕ → Share) → Split layers x b other
      → losses rule s k 0 (split_heads layers x other) ≤ least_loss rule layers s k x b → Foremost x (named_below x b) other
  named_below-foremost zero b other h g = tt
  named_below-foremost (suc x) b other h g =
      let c = (other x).count in
      let fits = split-last-le layers x b other h in
      let init = split-init layers x b other h in
      let e = losses-suc layers rule s k x other in
      let l = loss_of-le-loss_with rule layers s k x c (other x).copies (h.held x (lt-suc_self x)) in
      let i = least_loss-le-losses rule layers s k x (b - c) other init in
      let j = least_loss-suc-le rule layers s k x b c fits in
      go (eq-or-lt_of_le (le-best_count rule layers s k x b c fits (omega arith))) (named_below-foremost x (b - c) other init (omega arith))
    where
      go : ((other x).count ≡ best_count rule layers s k x b) ⊎ ((other x).count < best_count rule layers s k x b)
          → Foremost x (named_below x (b - (other x).count)) other → Foremost (suc x) (named_below (suc x) b) other
      go (inl p) ih =
          inr (
            p ∙ sym (named_counts-last x b),
            foremost-congr x (named_below (suc x) b) (named_below x (b - (other x).count)) other
                (λ y l. rw p (named_below-init x b y l)) ih,
          )
      go (inr p) ih = inl (rw (named_counts-last x b) p)
