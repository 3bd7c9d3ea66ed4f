-- Whether some number below n passes a test. Assumes nothing.
use Prim.Native.Nat.{ℕ, zero, suc, ◌<◌}
use native.Mathlib.Nat.{not-suc-le-zero, eq-or-lt_of_le, le_of_suc-le-suc}
use mathlib.Core.Path.{◌≡◌, refl, sym, ◌∙◌}
use mathlib.Core.Logic.{◌⊎◌, inl, inr}
use mathlib.Core.Bool.{Bool, true, false, ◌||◌, or-false, or-true, or_assoc}
use mathlib.Core.List.{List, [], ◌∷◌, ◌++◌}
use Rattle.lists.specs.Lists.{any, up_to}

-- some element, one element at a time
module _ {A : Type 0} (f : A → Bool) where
  any_snoc : (l : List A) (a : A) → any f (l ++ (a ∷ [])) ≡ (any f l || f a)
  unfolding any
  any_snoc [] a = or-false (f a)
  any_snoc (b ∷ l) a = rw (any_snoc l a) (sym (or_assoc (f b) (any f l) (f a)))

module _ (f : ℕ → Bool) where
  any-up_to-suc : (x : ℕ) → any f (up_to (suc x)) ≡ (any f (up_to x) || f x)
  unfolding up_to
  any-up_to-suc x = any_snoc f (up_to x) x

  pub any-up_to-none : any f (up_to 0) ≡ false
  unfolding any up_to
  any-up_to-none = refl

  pub any-up_to-next : (x : ℕ) → any f (up_to x) ≡ false → f x ≡ false → any f (up_to (suc x)) ≡ false
  any-up_to-next x e h = any-up_to-suc x ∙ rw (e, h)

  pub any-up_to-some : (x n : ℕ) → x < n → f x ≡ true → any f (up_to n) ≡ true
  any-up_to-some x zero h e = absurd (not-suc-le-zero h)
  any-up_to-some x (suc n) h e = any-up_to-suc n ∙ go (eq-or-lt_of_le (le_of_suc-le-suc h)) (any-up_to-some x n)
    where
      go : (x ≡ n) ⊎ (x < n) → (x < n → f x ≡ true → any f (up_to n) ≡ true) → (any f (up_to n) || f n) ≡ true
      go (inl p) ih = rw (← p, e) (or-true (any f (up_to x)))
      go (inr l) ih = rw (ih l e)
