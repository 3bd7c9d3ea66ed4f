-- What c records of one layer lose with the least copies. Assumes nothing.
use Prim.Native.Nat.{ℕ, ◌*◌, ◌≤◌, ◌<◌, zero-le}
use native.Mathlib.Nat.{le_refl, le_trans, eq-zero-or-pos, mul-le-mul_right}
use native.Mathlib.Omega.{arith}
use mathlib.Core.Path.{◌≡◌, refl, sym, ◌∙◌, ap}
use mathlib.Core.Logic.{◌⊎◌, inl, inr}
use mathlib.Core.Bool.{true, false, cond, ◌&&◌, and-false}
use mathlib.Core.List.{List}
use lib.Dec.{eqb, ltb}
use borrow.Author.Tests.{eq-eqb, ne_eqb, lt-ltb}
use Rattle.layers.specs.declared.LayerHead.{LayerHead}
use Rattle.placement.specs.declared.Rule.{Rule}
use Rattle.placement.specs.Figure.{loss}
use Rattle.split.specs.Splits.{layer_at, share_head, share_of, copies_for, no_split, loss_of}
use Rattle.split.proofs.Copies.{le-copies_for-mul, copies_for-least}
use Rattle.placement.proofs.Losses.{loss-le-size}
use Rattle.split.proofs.Losses.{loss-mono}

-- the test that a layer without a block is to hold a record
refused-test : (m c : ℕ) → m ≡ 0 → 0 < c → (eqb m 0 && ltb 0 c) ≡ true
refused-test m c e h = rw (eq-eqb m 0 e) (lt-ltb 0 c h)

blocks-test : (m c : ℕ) → 0 < m → (eqb m 0 && ltb 0 c) ≡ false
blocks-test m c h = rw (ne_eqb m 0 (λ e. omega arith)) refl

no-record-test : (m : ℕ) → (eqb m 0 && ltb 0 0) ≡ false
no-record-test m = and-false (eqb m 0)

module _ (rule : Rule) (layers : List LayerHead) (s k x : ℕ) where
  -- the loss of c records with d copies
  abbrev pub loss_with : (c d : ℕ) → ℕ
  loss_with c d = loss rule s k x (share_head (layer_at layers x) (record { count = c; copies = d }))

  -- with the least copies
  abbrev pub loss_least : (c : ℕ) → ℕ
  loss_least c = loss rule s k x (share_head (layer_at layers x) (share_of (layer_at layers x) c))

  -- the least copies hold the c records, and theirs is the loss
  abbrev pub LeastHeld : (c : ℕ) → Type 0
  LeastHeld c =
      (c ≤ copies_for c (layer_at layers x).size * (layer_at layers x).size) × (loss_of rule layers s k x c ≡ loss_least c)

  -- otherwise a layer without a block is to hold a record
  abbrev LossCase : (c : ℕ) → Type 0
  LossCase c = (((layer_at layers x).size ≡ 0) × (0 < c)) ⊎ LeastHeld c

  pub loss_of-no-blocks : (c : ℕ) → (layer_at layers x).size ≡ 0 → 0 < c → loss_of rule layers s k x c ≡ no_split
  unfolding loss_of
  loss_of-no-blocks c e h = ap (λ b. cond b no_split (loss_least c)) (refused-test (layer_at layers x).size c e h)

  pub loss_of-blocks : (c : ℕ) → 0 < (layer_at layers x).size → loss_of rule layers s k x c ≡ loss_least c
  unfolding loss_of
  loss_of-blocks c h = ap (λ b. cond b no_split (loss_least c)) (blocks-test (layer_at layers x).size c h)

  loss_least-zero : loss_least 0 ≡ 0
  loss_least-zero =
      let h = loss-le-size rule s k x (share_head (layer_at layers x) (share_of (layer_at layers x) 0)) in
      omega arith

  -- no record loses nothing, in any layer
  pub loss_of-zero : loss_of rule layers s k x 0 ≡ 0
  unfolding loss_of
  loss_of-zero = ap (λ b. cond b no_split (loss_least 0)) (no-record-test (layer_at layers x).size) ∙ loss_least-zero

  loss_of-cases : (c : ℕ) → LossCase c
  loss_of-cases c = go (eq-zero-or-pos (layer_at layers x).size) (eq-zero-or-pos c)
    where
      go : ((layer_at layers x).size ≡ 0) ⊎ (0 < (layer_at layers x).size) → (c ≡ 0) ⊎ (0 < c) → LossCase c
      go (inr m) z = inr (le-copies_for-mul c (layer_at layers x).size m, loss_of-blocks c m)
      go (inl e) (inl z) = inr (rw z zero-le, rw z (loss_of-zero ∙ sym loss_least-zero))
      go (inl e) (inr p) = inl (e, p)

  -- a loss below the mark is that of the least copies, and these hold the records
  pub loss_of-lt : (c : ℕ) → loss_of rule layers s k x c < no_split → LeastHeld c
  loss_of-lt c h = go (loss_of-cases c)
    where
      go : LossCase c → LeastHeld c
      go (inl p) = let e = loss_of-no-blocks c p.0 p.1 in absurd (omega arith)
      go (inr p) = p

  -- no copies that hold c records lose less
  pub loss_of-le-loss_with : (c d : ℕ) → c ≤ d * (layer_at layers x).size → loss_of rule layers s k x c ≤ loss_with c d
  loss_of-le-loss_with c d h = go (loss_of-cases c)
    where
      go : LossCase c → loss_of rule layers s k x c ≤ loss_with c d
      go (inl p) = let q : c ≤ d * 0 = rw p.0 at h in absurd (omega arith)
      go (inr p) =
          rw p.1 (loss-mono rule s k x _ _ (mul-le-mul_right _ (copies_for-least c (layer_at layers x).size d h)) (le_refl c))

  -- at most the records where there is a block
  pub loss_of-le-self : (c : ℕ) → 0 < (layer_at layers x).size → loss_of rule layers s k x c ≤ c
  loss_of-le-self c p =
      rw (loss_of-blocks c p) (loss-le-size rule s k x (share_head (layer_at layers x) (share_of (layer_at layers x) c)))

  -- at most the records or the mark
  pub loss_of-le : (c n : ℕ) → c ≤ n → no_split ≤ n → loss_of rule layers s k x c ≤ n
  loss_of-le c n h g = go (loss_of-cases c)
    where
      go : LossCase c → loss_of rule layers s k x c ≤ n
      go (inl p) = rw (loss_of-no-blocks c p.0 p.1) g
      go (inr p) =
          let q = loss-le-size rule s k x (share_head (layer_at layers x) (share_of (layer_at layers x) c)) in
          omega arith

  -- more records lose no less
  pub loss_of-mono : (c d : ℕ) → c ≤ d → loss_of rule layers s k x c ≤ loss_of rule layers s k x d
  loss_of-mono c d h = go (eq-zero-or-pos c) (loss_of-cases d)
    where
      go : (c ≡ 0) ⊎ (0 < c) → LossCase d → loss_of rule layers s k x c ≤ loss_of rule layers s k x d
      go (inl z) q = rw (z, loss_of-zero) zero-le
      go (inr p) (inl q) = rw (loss_of-no-blocks c q.0 p, loss_of-no-blocks d q.0 q.1) (le_refl no_split)
      go (inr p) (inr q) =
          rw q.1 (le_trans (loss_of-le-loss_with c (copies_for d (layer_at layers x).size) (le_trans h q.0)) (loss-mono rule s k x _ _ (le_refl _) h))
