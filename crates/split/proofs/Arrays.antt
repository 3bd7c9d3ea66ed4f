-- What the counts look at: mu and m of the layers below s. So the code's array of five serves as well as a pack's layers.
-- Assumes nothing.
use Prim.Native.Nat.{ℕ, zero, suc, ◌+◌, ◌-◌, ◌<◌}
use native.Mathlib.Nat.{lt-suc_self}
use native.Mathlib.Omega.{arith}
use mathlib.Core.Path.{◌≡◌, refl, sym, ap, ap₂, ◌∙◌}
use mathlib.Core.Bool.{cond, ◌&&◌}
use mathlib.Core.List.{List, [], ◌∷◌, ◌++◌}
use lib.Dec.{ltb, eqb}
use Rattle.layers.specs.declared.LayerHead.{LayerHead}
use Rattle.placement.specs.declared.Rule.{Rule}
use Rattle.placement.specs.Figure.{loss}
use Rattle.split.specs.Splits.{layer_at, share_head, share_of, no_split, loss_of, least_loss, best_count, named_counts}
use Rattle.split.proofs.Congruence.{least-congr, last_least-congr}
use Rattle.split.proofs.LeastLoss.{loss_at}
use Rattle.split.proofs.NamedCounts.{named_counts-suc}

-- layers that agree below x
abbrev pub AgreeBelow : (a b : List LayerHead) (x : ℕ) → Type 0
AgreeBelow a b x = (y : ℕ) → y < x → layer_at a y ≡ layer_at b y

module _ (rule : Rule) (a b : List LayerHead) (s k : ℕ) where
  loss_of-congr : (x c : ℕ) → layer_at a x ≡ layer_at b x → loss_of rule a s k x c ≡ loss_of rule b s k x c
  unfolding loss_of
  loss_of-congr x c e =
      ap (λ (h : LayerHead). cond (eqb h.size 0 && ltb 0 c) no_split (loss rule s k x (share_head h (share_of h c)))) e

  least_loss-congr : (x n : ℕ) → AgreeBelow a b x → least_loss rule a s k x n ≡ least_loss rule b s k x n
  unfolding least_loss
  least_loss-congr zero n h = refl
  least_loss-congr (suc x) n h =
      least-congr _ _ n (λ c l. ap₂ ◌+◌ (loss_of-congr x c (h x (lt-suc_self x))) (least_loss-congr x (n - c) (λ y g. h y (omega arith))))

  loss_at-congr : (x n c : ℕ) → AgreeBelow a b (suc x) → loss_at rule a s k x n c ≡ loss_at rule b s k x n c
  loss_at-congr x n c h =
      ap₂ ◌+◌ (loss_of-congr x c (h x (lt-suc_self x))) (least_loss-congr x (n - c) (λ y g. h y (omega arith)))

  best_count-congr : (x n : ℕ) → AgreeBelow a b (suc x) → best_count rule a s k x n ≡ best_count rule b s k x n
  unfolding best_count
  best_count-congr x n h = last_least-congr _ _ n (λ c l. loss_at-congr x n c h)

  pub named_counts-congr : (x n : ℕ) → AgreeBelow a b x → named_counts rule a s k x n ≡ named_counts rule b s k x n
  unfolding named_counts
  named_counts-congr zero n h = refl
  named_counts-congr (suc x) n h =
      let e = best_count-congr x n h in
      let below = named_counts-congr x (n - best_count rule a s k x n) (λ y g. h y (omega arith)) in
      named_counts-suc rule a s k x n
      ∙ ap (λ (l : List ℕ). l ++ (best_count rule a s k x n ∷ [])) below
      ∙ ap (λ (c : ℕ). named_counts rule b s k x (n - c) ++ (c ∷ [])) e
      ∙ sym (named_counts-suc rule b s k x n)
