-- What is listed: elements that pass a test, and the first of them. Assumes nothing.
use Prim.Native.Nat.{ℕ, zero, suc, ◌<◌, suc-le-suc}
use native.Mathlib.Nat.{not-suc-le-zero, le_of_suc-le-suc, zero-lt-suc, le_trans}
use mathlib.Core.Path.{◌≡◌, refl, sym, subst}
use mathlib.Core.Bool.{Bool, true, false, ◌||◌, true≢false}
use mathlib.Core.List.{List, [], ◌∷◌, Memᴰ}
use mathlib.Core.Option.{some}
use lib.Dec.{T}
use Rattle.lists.specs.Lists.{All, tally, count, any, first_where}
use Rattle.lists.proofs.Tests.{true-T, or_left, or_right}
use Rattle.lists.proofs.Counts.{le-tally}
use Rattle.lists.proofs.Finds.{FoundAt}

module _ {A : Type 0} where
  -- what holds of every element holds of one that is listed
  pub all-mem : (P : A → Type 0) {a : A} {l : List A} → All P l → Memᴰ a l → P a
  all-mem P h (Memᴰ.head e) = subst P (sym e) h.0
  all-mem P h (Memᴰ.tail m) = all-mem P h.1 m

  -- an element that is listed and passes makes `any` pass
  pub any-mem : (f : A → Bool) {a : A} {l : List A} → Memᴰ a l → T (f a) → T (any f l)
  unfolding any
  any-mem f (Memᴰ.head {x = b} {xs = l} e) t = or_left (f b) (any f l) (subst (λ c. T (f c)) e t)
  any-mem f (Memᴰ.tail {x = b} {xs = l} m) t = or_right (f b) (any f l) (any-mem f m t)

  -- and is counted
  pub count-mem : (f : A → Bool) {a : A} {l : List A} → Memᴰ a l → T (f a) → 0 < count f l
  unfolding count
  count-mem f (Memᴰ.head {x = b} {xs = l} e) t = rw (true-T (f b) (subst (λ c. T (f c)) e t)) (zero-lt-suc (count f l))
  count-mem f (Memᴰ.tail {x = b} {xs = l} m) t = le_trans (count-mem f m t) (le-tally (f b) (count f l))

  -- an element that is listed and passes
  pub record Passing (f : A → Bool) (l : List A) : Type 0 where
    pub element : A
    pub listed : Memᴰ element l
    pub passes : T (f element)

  passing-here : (f : A → Bool) (a : A) (l : List A) → T (f a) → Passing f (a ∷ l)
  passing-here f a l t = record { element = a; listed = Memᴰ.head refl; passes = t }

  passing-later : (f : A → Bool) (a : A) (l : List A) → Passing f l → Passing f (a ∷ l)
  passing-later f a l p = record { element = p.element; listed = Memᴰ.tail p.listed; passes = p.passes }

  pub passing-any : (f : A → Bool) (l : List A) → T (any f l) → Passing f l
  unfolding any
  passing-any f [] t = absurd t
  passing-any f (a ∷ l) t = go (f a) refl t (passing-any f l)
    where
      go : (b : Bool) → f a ≡ b → T (b || any f l) → (T (any f l) → Passing f l) → Passing f (a ∷ l)
      go true p q ih = passing-here f a l (rw p tt)
      go false p q ih = passing-later f a l (ih q)

  -- a count above 0 has an element that passes
  pub passing-count : (f : A → Bool) (l : List A) → 0 < count f l → Passing f l
  unfolding count
  passing-count f [] h = absurd (not-suc-le-zero h)
  passing-count f (a ∷ l) h = go (f a) refl h (passing-count f l)
    where
      go : (b : Bool) → f a ≡ b → 0 < tally b (count f l) → (0 < count f l → Passing f l) → Passing f (a ∷ l)
      go true p q ih = passing-here f a l (rw p tt)
      go false p q ih = passing-later f a l (ih q)

  -- where `any` does not pass, no element is counted
  pub count-of-any-false : (f : A → Bool) (l : List A) → any f l ≡ false → count f l ≡ 0
  unfolding any count
  count-of-any-false f [] e = refl
  count-of-any-false f (a ∷ l) e = go (f a) e (count-of-any-false f l)
    where
      go : (b : Bool) → (b || any f l) ≡ false → (any f l ≡ false → count f l ≡ 0) → tally b (count f l) ≡ 0
      go true q ih = absurd (true≢false q)
      go false q ih = ih q

  -- the place of the first element that passes is what is found
  found-tail : (f : A → Bool) (a : A) (l : List A) (d : A) (i : ℕ) → FoundAt f (a ∷ l) d (suc i) → FoundAt f l d i
  found-tail f a l d i h =
      record {
        within = le_of_suc-le-suc h.within;
        passes = h.passes;
        first = λ j lt. h.first (suc j) (suc-le-suc lt);
      }

  pub first_where-some : (f : A → Bool) (l : List A) (d : A) (i : ℕ) → FoundAt f l d i → first_where f l ≡ some i
  unfolding first_where
  first_where-some f [] d i h = absurd (not-suc-le-zero h.within)
  first_where-some f (a ∷ l) d zero h = rw h.passes
  first_where-some f (a ∷ l) d (suc i) h =
      rw (h.first zero (zero-lt-suc i), first_where-some f l d i (found-tail f a l d i h))
