-- The last of the numbers below s with the highest f. Assumes nothing.
use Prim.Native.Nat.{ℕ, zero, suc, ◌≤◌, ◌<◌}
use native.Mathlib.Omega.{arith}
use native.Mathlib.Nat.{le_refl, le_trans, eq-or-lt_of_le, le_of_suc-le-suc}
use mathlib.Core.Path.{◌≡◌, refl}
use mathlib.Core.Logic.{◌⊎◌, inl, inr}
use mathlib.Core.Bool.{Bool, true, false, cond}
use lib.Dec.{leb}
use borrow.Author.Tests.{leb-true, leb-false}
use Rattle.certify.specs.Certify.{last_highest}

module _ (f : ℕ → ℕ) where
  highest-le : (s : ℕ) → last_highest f s < suc s
  unfolding last_highest
  highest-le zero = omega arith
  highest-le (suc x) = go (leb (f (last_highest f x)) (f x)) (highest-le x)
    where
      go : (b : Bool) → last_highest f x < suc x → cond b x (last_highest f x) < suc (suc x)
      go true ih = omega arith
      go false ih = omega arith

  -- where there is a number below s, it is one
  pub highest-below : (s : ℕ) → 0 < s → last_highest f s < s
  unfolding last_highest
  highest-below zero h = absurd (omega arith)
  highest-below (suc x) h = go (leb (f (last_highest f x)) (f x)) (highest-le x)
    where
      go : (b : Bool) → last_highest f x < suc x → cond b x (last_highest f x) < suc x
      go true ih = omega arith
      go false ih = ih

  -- none below s is higher
  pub highest-most : (s x : ℕ) → x < s → f x ≤ f (last_highest f s)
  unfolding last_highest
  highest-most zero x h = absurd (omega arith)
  highest-most (suc y) x h = go (leb (f (last_highest f y)) (f y)) refl (eq-or-lt_of_le (le_of_suc-le-suc h)) (highest-most y x)
    where
      go : (b : Bool) → leb (f (last_highest f y)) (f y) ≡ b → (x ≡ y) ⊎ (x < y) → (x < y → f x ≤ f (last_highest f y))
          → f x ≤ f (cond b y (last_highest f y))
      go true p (inl e) ih = rw e (le_refl _)
      go true p (inr lt) ih = le_trans (ih lt) (leb-true (f (last_highest f y)) (f y) p)
      go false p (inl e) ih = rw e (omega (arith, leb-false (f (last_highest f y)) (f y) p))
      go false p (inr lt) ih = ih lt

  -- "of equal ones the highest": one after it is lower
  pub highest-last : (s x : ℕ) → x < s → last_highest f s < x → f x < f (last_highest f s)
  unfolding last_highest
  highest-last zero x h g = absurd (omega arith)
  highest-last (suc y) x h g = go (leb (f (last_highest f y)) (f y)) refl (eq-or-lt_of_le (le_of_suc-le-suc h)) (highest-last y x) g
    where
      go : (b : Bool) → leb (f (last_highest f y)) (f y) ≡ b → (x ≡ y) ⊎ (x < y)
          → (x < y → last_highest f y < x → f x < f (last_highest f y))
          → cond b y (last_highest f y) < x → f x < f (cond b y (last_highest f y))
      go true p (inl e) ih g = absurd (omega arith)
      go true p (inr lt) ih g = absurd (omega arith)
      go false p (inl e) ih g = rw e (leb-false (f (last_highest f y)) (f y) p)
      go false p (inr lt) ih g = ih lt g

  -- of one number it is that
  pub highest-one : last_highest f 1 ≡ 0
  unfolding last_highest
  highest-one = go (leb (f 0) (f 0))
    where
      go : (b : Bool) → ◌≡◌ {A = ℕ} (cond b 0 0) 0
      go true = refl
      go false = refl

  -- and with one more below s it is the better of the two
  module _ {A : Type 0} (g : ℕ → A) where
    pub highest-next : (x : ℕ) → cond (leb (f (last_highest f x)) (f x)) (g x) (g (last_highest f x)) ≡ g (last_highest f (suc x))
    unfolding last_highest
    highest-next x = go (leb (f (last_highest f x)) (f x))
      where
        go : (b : Bool) → cond b (g x) (g (last_highest f x)) ≡ g (cond b x (last_highest f x))
        go true = refl
        go false = refl
