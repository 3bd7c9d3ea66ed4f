-- What the planner's code needs of the table: its numbers fit, it grows with the records, and layer 0 takes what is left. Assumes nothing.
use Prim.Native.Nat.{ℕ, zero, suc, ◌*◌, ◌-◌, ◌≤◌, ◌<◌, min, zero-le}
use native.Mathlib.Nat.{le_refl, le_trans, le_antisymm, le_of_eq, min-le_left, min-le_right, mul-le-mul, eq-or-lt_of_le, eq-zero-or-pos}
use native.Mathlib.Omega.{arith}
use mathlib.Core.Path.{◌≡◌, ap}
use mathlib.Core.Logic.{◌⊎◌, inl, inr}
use mathlib.Core.Bool.{cond}
use mathlib.Core.List.{List}
use lib.ListN.{get_or}
use lib.Dec.{T}
use borrow.Author.Tests.{ne_eqb}
use Rattle.layers.specs.declared.LayerHead.{LayerHead}
use Rattle.placement.specs.declared.Rule.{Rule}
use Rattle.split.specs.Splits.{layer_at, copies_for, no_split, loss_of, least_loss, best_count, named_counts, named_split, has_block}
use Rattle.split.proofs.Copies.{copies_for-le-self}
use Rattle.split.proofs.Heads.{split-count-le}
use Rattle.split.proofs.Named.{named_split-is-split}
use Rattle.split.proofs.LossOf.{loss_of-le, loss_of-mono}
use Rattle.split.proofs.LeastLoss.{loss_at, least_loss-suc-le, le-least_loss-suc, least_loss-suc-le-self, least_loss-no-records, loss_at-all, best_count-le, le-best_count}

-- no more copies than records
pub copies_for-le-4096 : (c m : ℕ) → c ≤ 4_096 → copies_for c m ≤ 4_096
copies_for-le-4096 c m h = le_trans (copies_for-le-self c m) h

-- "lambda (0..16,777,216)"
pub copies_for-mul-bound-le : (c m bound : ℕ) → c ≤ 4_096 → bound ≤ 4_096 → copies_for c m * bound ≤ 16_777_216
copies_for-mul-bound-le c m bound h g = mul-le-mul (copies_for-le-4096 c m h) g

module _ (rule : Rule) (layers : List LayerHead) (s k : ℕ) where
  pub loss_of-le-no_split : (x c : ℕ) → c ≤ no_split → loss_of rule layers s k x c ≤ no_split
  loss_of-le-no_split x c h = loss_of-le rule layers s k x c no_split h (le_refl no_split)

  -- records below layer 0 have no place
  pub least_loss-zero-pos : (b : ℕ) → 0 < b → least_loss rule layers s k 0 b ≡ no_split
  unfolding least_loss
  least_loss-zero-pos b h = ap (λ t. cond t 0 no_split) (ne_eqb b 0 (λ e. omega arith))

  -- no entry of the table is above the mark
  pub least_loss-le-no_split : (x b : ℕ) → least_loss rule layers s k x b ≤ no_split
  least_loss-le-no_split zero b = go (eq-zero-or-pos b)
    where
      go : (b ≡ 0) ⊎ (0 < b) → least_loss rule layers s k 0 b ≤ no_split
      go (inl e) = rw (e, least_loss-no-records rule layers s k 0) zero-le
      go (inr h) = le_of_eq (least_loss-zero-pos b h)
  least_loss-le-no_split (suc x) b = le_trans (least_loss-suc-le-self rule layers s k x b) (least_loss-le-no_split x b)

  -- so the entries fit 16 bits
  pub least_loss-lt-65536 : (x b : ℕ) → least_loss rule layers s k x b < 65_536
  least_loss-lt-65536 x b = let h = least_loss-le-no_split x b in omega arith

  -- more records lose no less
  pub least_loss-mono : (x b c : ℕ) → b ≤ c → least_loss rule layers s k x b ≤ least_loss rule layers s k x c
  least_loss-mono zero b c h = go (eq-zero-or-pos b)
    where
      go : (b ≡ 0) ⊎ (0 < b) → least_loss rule layers s k 0 b ≤ least_loss rule layers s k 0 c
      go (inl e) = rw (e, least_loss-no-records rule layers s k 0) zero-le
      go (inr p) = rw (least_loss-zero-pos b p, least_loss-zero-pos c (omega arith)) (le_refl no_split)
  least_loss-mono (suc x) b c h =
      le-least_loss-suc rule layers s k (least_loss rule layers s k (suc x) b) x c (λ d g. below d g (least_loss-mono x (b - min d b) (c - d)))
    where
      below : (d : ℕ) → d ≤ c → (b - min d b ≤ c - d → least_loss rule layers s k x (b - min d b) ≤ least_loss rule layers s k x (c - d))
          → least_loss rule layers s k (suc x) b ≤ loss_at rule layers s k x c d
      below d g ih =
          let l = least_loss-suc-le rule layers s k x b (min d b) (min-le_right d b) in
          let m = loss_of-mono rule layers s k x (min d b) d (min-le_left d b) in
          let i = ih (omega arith) in
          omega arith

  -- alone, layer 0 takes all the records
  least_loss-one : (b : ℕ) → b ≤ no_split → least_loss rule layers s k 1 b ≡ loss_of rule layers s k 0 b
  least_loss-one b h =
      let e = loss_at-all rule layers s k 0 b in
      let g = least_loss-suc-le rule layers s k 0 b b (le_refl b) in
      le_antisymm (omega arith) (le-least_loss-suc rule layers s k (loss_of rule layers s k 0 b) 0 b (λ c l. below c (eq-or-lt_of_le l)))
    where
      below : (c : ℕ) → (c ≡ b) ⊎ (c < b) → loss_of rule layers s k 0 b ≤ loss_at rule layers s k 0 b c
      below c (inl e) = rw (e, loss_at-all rule layers s k 0 b) (le_refl _)
      below c (inr l) =
          let e = least_loss-zero-pos (b - c) (omega arith) in
          let g = loss_of-le-no_split 0 b h in
          omega arith

  pub best_count-zero : (b : ℕ) → b ≤ no_split → best_count rule layers s k 0 b ≡ b
  best_count-zero b h =
      let e = loss_at-all rule layers s k 0 b in
      let g = least_loss-one b h in
      le_antisymm (best_count-le rule layers s k 0 b) (le-best_count rule layers s k 0 b b (le_refl b) (omega arith))

-- the named split's lambdas are within their limits
pub named-lambda-le : (rule : Rule) (layers : List LayerHead) (s k b : ℕ) → b ≤ 4_096 → T (has_block layers s) → (x : ℕ) → x < s
    → (layer_at layers x).bound ≤ 4_096 → (named_split rule layers s k b x).copies * (layer_at layers x).bound ≤ 16_777_216
unfolding named_split
named-lambda-le rule layers s k b small block x l g =
    let h = split-count-le layers s b (named_split rule layers s k b) (named_split-is-split rule layers s k b small block) x l in
    copies_for-mul-bound-le (get_or (named_counts rule layers s k s b) x 0) (layer_at layers x).size (layer_at layers x).bound (le_trans h small) g
