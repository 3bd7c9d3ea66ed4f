-- The least loss of b records in the layers below x: no split loses less. Assumes nothing.
use Prim.Native.Nat.{ℕ, zero, suc, ◌+◌, ◌-◌, ◌≤◌, ◌<◌, zero-le}
use native.Mathlib.Nat.{le_refl, le_trans, lt-suc_self, sub-zero, sub_self, add-zero}
use native.Mathlib.Omega.{arith}
use mathlib.Core.Path.{◌≡◌, refl, sym}
use mathlib.Core.Logic.{◌⊎◌, inl, inr}
use mathlib.Core.Bool.{Bool, true, false, cond}
use mathlib.Core.List.{List}
use lib.Dec.{T, ltb, eqb, ltb→lt}
use borrow.Author.Tests.{eqb-true}
use Rattle.lists.specs.Lists.{any, total, up_to}
use Rattle.layers.specs.declared.LayerHead.{LayerHead}
use Rattle.placement.specs.declared.Rule.{Rule}
use Rattle.placement.specs.Figure.{losses}
use Rattle.split.specs.Splits.{Share, Split, layer_at, split_heads, no_split, loss_of, least_loss, best_count, has_block}
use Rattle.lists.proofs.Prefixes.{any-take-suc}
use Rattle.split.proofs.Least.{least-le, last_least-le, last_least-eq, le-last_least, le-least}
use Rattle.split.proofs.LossOf.{loss_of-zero, loss_of-le-self, loss_of-le-loss_with}
use Rattle.split.proofs.Heads.{losses-suc, split-last-le, split-init}

module _ (rule : Rule) (layers : List LayerHead) (s k : ℕ) where
  -- the loss of b records below suc x, of which c are in layer x
  abbrev pub loss_at : (x b c : ℕ) → ℕ
  loss_at x b c = loss_of rule layers s k x c + least_loss rule layers s k x (b - c)

  pub least_loss-suc-le : (x b c : ℕ) → c ≤ b → least_loss rule layers s k (suc x) b ≤ loss_at x b c
  unfolding least_loss
  least_loss-suc-le x b c h = least-le (loss_at x b) b c h

  pub le-least_loss-suc : (n x b : ℕ) → ((c : ℕ) → c ≤ b → n ≤ loss_at x b c) → n ≤ least_loss rule layers s k (suc x) b
  unfolding least_loss
  le-least_loss-suc n x b h = le-least (loss_at x b) n b h

  -- the chosen count: the largest that leaves the least loss
  pub le-best_count : (x b c : ℕ) → c ≤ b → loss_at x b c ≤ least_loss rule layers s k (suc x) b → c ≤ best_count rule layers s k x b
  unfolding best_count least_loss
  le-best_count x b c h g = le-last_least (loss_at x b) b c h g

  pub best_count-le : (x b : ℕ) → best_count rule layers s k x b ≤ b
  unfolding best_count
  best_count-le x b = last_least-le (loss_at x b) b

  pub loss_at-best_count : (x b : ℕ) → loss_at x b (best_count rule layers s k x b) ≡ least_loss rule layers s k (suc x) b
  unfolding best_count least_loss
  loss_at-best_count x b = last_least-eq (loss_at x b) b

  -- below layer 0 only 0 records fit
  pub least_loss-zero-zero : least_loss rule layers s k 0 0 ≡ 0
  unfolding least_loss
  least_loss-zero-zero = refl

  pub least_loss-zero-lt : (b : ℕ) → least_loss rule layers s k 0 b < no_split → b ≡ 0
  unfolding least_loss
  least_loss-zero-lt b h = go (eqb b 0) refl h
    where
      go : (t : Bool) → eqb b 0 ≡ t → cond t 0 no_split < no_split → b ≡ 0
      go true e g = eqb-true b 0 e
      go false e g = absurd (omega arith)

  -- no records lose nothing
  pub least_loss-no-records : (x : ℕ) → least_loss rule layers s k x 0 ≡ 0
  least_loss-no-records zero = least_loss-zero-zero
  least_loss-no-records (suc x) =
      let h = least_loss-suc-le x 0 0 zero-le in
      let e = loss_of-zero rule layers s k x in
      let g = least_loss-no-records x in
      omega arith

  -- all b records in layer x
  pub loss_at-all : (x b : ℕ) → loss_at x b b ≡ loss_of rule layers s k x b
  loss_at-all x b = rw (sub_self b, least_loss-no-records x) (add-zero _)

  -- no layer more loses more
  pub least_loss-suc-le-self : (x b : ℕ) → least_loss rule layers s k (suc x) b ≤ least_loss rule layers s k x b
  least_loss-suc-le-self x b =
      let h : least_loss rule layers s k (suc x) b ≤ loss_of rule layers s k x 0 + least_loss rule layers s k x b = rw sub-zero at (least_loss-suc-le x b 0 zero-le) in
      let e = loss_of-zero rule layers s k x in
      omega arith

  -- "Its figure is b less the losses": every split loses at least the least loss
  pub least_loss-le-losses : (x b : ℕ) (split : ℕ → Share) → Split layers x b split
      → least_loss rule layers s k x b ≤ losses rule s k 0 (split_heads layers x split)
  unfolding up_to total
  least_loss-le-losses zero b split h =
      let e : b ≡ 0 = sym h.sum in
      rw (e, least_loss-zero-zero) zero-le
  least_loss-le-losses (suc x) b split h =
      let fits = split-last-le layers x b split h in
      let g = least_loss-suc-le x b (split x).count fits in
      let ih = least_loss-le-losses x (b - (split x).count) split (split-init layers x b split h) in
      let l = loss_of-le-loss_with rule layers s k x (split x).count (split x).copies (h.held x (lt-suc_self x)) in
      let e = losses-suc layers rule s k x split in
      omega arith

  -- with a block in some layer below x, the least loss is at most the records
  pub least_loss-le-self : (x b : ℕ) → T (has_block layers x) → least_loss rule layers s k x b ≤ b
  unfolding has_block any
  least_loss-le-self zero b t = absurd t
  least_loss-le-self (suc x) b t = go (any-take-suc (λ layer. ltb 0 layer.size) layers x _ t) (least_loss-le-self x b)
    where
      go : T (ltb 0 (layer_at layers x).size) ⊎ T (has_block layers x) → (T (has_block layers x) → least_loss rule layers s k x b ≤ b)
          → least_loss rule layers s k (suc x) b ≤ b
      go (inl p) ih =
          let h = least_loss-suc-le x b b (le_refl b) in
          let e = loss_at-all x b in
          let g = loss_of-le-self rule layers s k x b (ltb→lt 0 (layer_at layers x).size p) in
          omega arith
      go (inr p) ih = le_trans (least_loss-suc-le-self x b) (ih p)
