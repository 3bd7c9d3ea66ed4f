-- Parts of a list side by side, and what looks only at its first elements. Assumes nothing.
use Prim.Native.Nat.{ℕ, zero, suc, ◌+◌, ◌-◌, ◌≤◌}
use native.Mathlib.Omega.{arith}
use mathlib.Core.Path.{◌≡◌, refl, ◌∙◌, ap}
use mathlib.Core.Logic.{◌⊎◌, inl, inr}
use mathlib.Core.Bool.{Bool, true, false}
use mathlib.Core.List.{List, [], ◌∷◌, ◌++◌}
use lib.ListN.{length, take, drop, get_or}
use lib.Dec.{T, leb}
use borrow.Author.Tests.{leb-true, leb-false}
use lib.Seq.{slice, take-add, take_all, drop-append-le, drop_at, length-take-le}
use Rattle.lists.specs.Lists.{any}
use Rattle.lists.proofs.Tests.{or_left, or_right, or_cases}

module _ {A : Type 0} where
  -- the elements from a to c are those from a to b and those from b to c
  pub slice-append : (a b c : ℕ) (l : List A) → a ≤ b → b ≤ c → c ≤ length l → slice a c l ≡ slice a b l ++ slice b c l
  slice-append a b c l h k le =
      let sum : c ≡ b + (c - b) = omega arith in
      let split : take c l ≡ take b l ++ take (c - b) (drop b l) = ap (λ n. take n l) sum ∙ take-add b (c - b) l in
      let len = length-take-le b l (omega arith) in
      rw (
        split,
        drop-append-le a (take b l) (take (c - b) (drop b l)) (omega arith),
        drop_at (take b l) (take (c - b) (drop b l)) b len,
      )

  -- what looks only at a list's first m elements is shown for lists that have m
  pub take-elim : {B : Type 0} (f : List A → B) (m : ℕ) (l : List A) → (m ≤ length l → f (take m l) ≡ f l)
      → f (take m l) ≡ f l
  take-elim f m l h = go (leb m (length l)) refl
    where
      go : (b : Bool) → leb m (length l) ≡ b → f (take m l) ≡ f l
      go true e = h (leb-true m (length l) e)
      go false e = let lt = leb-false m (length l) e in ap f (take_all m l (omega arith))

  -- among the first x + 1 elements: the last of them, or one before it
  pub any-take-suc : (f : A → Bool) (l : List A) (x : ℕ) (d : A) → T (any f (take (suc x) l)) → T (f (get_or l x d)) ⊎ T (any f (take x l))
  unfolding any
  any-take-suc f [] x d t = absurd t
  any-take-suc f (a ∷ l) zero d t = or_cases (f a) false t
  any-take-suc f (a ∷ l) (suc x) d t = go (or_cases (f a) (any f (take (suc x) l)) t) (any-take-suc f l x d)
    where
      go : T (f a) ⊎ T (any f (take (suc x) l)) → (T (any f (take (suc x) l)) → T (f (get_or l x d)) ⊎ T (any f (take x l)))
          → T (f (get_or l x d)) ⊎ T (any f (take (suc x) (a ∷ l)))
      go (inl p) ih = inr (or_left (f a) (any f (take x l)) p)
      go (inr p) ih = later (ih p)
        where
          later : T (f (get_or l x d)) ⊎ T (any f (take x l)) → T (f (get_or l x d)) ⊎ T (any f (take (suc x) (a ∷ l)))
          later (inl q) = inl q
          later (inr q) = inr (or_right (f a) (any f (take x l)) q)
