-- The first element that passes a test, and whether there is one. Assumes nothing.
use Prim.Native.Nat.{ℕ, zero, suc, ◌<◌, suc-le-suc}
use native.Mathlib.Nat.{not-suc-le-zero, le_of_suc-le-suc, zero-lt-suc}
use native.Mathlib.Omega.{arith}
use mathlib.Core.Path.{◌≡◌, refl, subst, ap, ap₂}
use mathlib.Core.Bool.{Bool, true, false, cond, ◌||◌, true≢false}
use mathlib.Core.List.{List, [], ◌∷◌, map}
use mathlib.Core.Option.{Option, none, some}
use lib.ListN.{length, get_or}
use lib.Dec.{T}
use Rattle.lists.specs.Lists.{All, any, first_where, later}
use Rattle.lists.proofs.Tests.{or_left, or_right}

-- what is later than nothing is nothing
later-none : (o : Option ℕ) → later o ≡ none → o ≡ none
later-none none e = refl
later-none (some i) e = absurd (let z : ◌≡◌ {A = ℕ} 0 1 = cc in omega arith)

module _ {A : Type 0} where
  -- no element passes exactly where none is found
  pub first_where-none : (f : A → Bool) (l : List A) → All (λ a. f a ≡ false) l → first_where f l ≡ none
  unfolding first_where
  first_where-none f [] h = refl
  first_where-none f (a ∷ l) h = rw (h.0, first_where-none f l h.1)

  pub none-first_where : (f : A → Bool) (l : List A) → first_where f l ≡ none → All (λ a. f a ≡ false) l
  unfolding first_where
  none-first_where f [] e = tt
  none-first_where f (a ∷ l) e = go (f a) refl e (none-first_where f l)
    where
      go : (b : Bool) → f a ≡ b → cond b (some 0) (later (first_where f l)) ≡ none
          → (first_where f l ≡ none → All (λ a. f a ≡ false) l) → (f a ≡ false) × All (λ a. f a ≡ false) l
      go true p q ih = absurd (let z : ◌≡◌ {A = ℕ} 0 1 = cc in omega arith)
      go false p q ih = (p, ih (later-none (first_where f l) q))

  -- what is found passes, and nothing before it does
  pub record FoundAt (f : A → Bool) (l : List A) (d : A) (i : ℕ) : Type 0 where
    pub within : i < length l
    pub passes : f (get_or l i d) ≡ true
    pub first : (j : ℕ) → j < i → f (get_or l j d) ≡ false

  -- at the first place, or one place further on
  found_here : (f : A → Bool) (a : A) (l : List A) (d : A) → f a ≡ true → FoundAt f (a ∷ l) d 0
  found_here f a l d p =
      record { within = zero-lt-suc _; passes = p; first = λ j lt. absurd (not-suc-le-zero lt) }

  found-later : (f : A → Bool) (a : A) (l : List A) (d : A) (i : ℕ) → f a ≡ false → FoundAt f l d i → FoundAt f (a ∷ l) d (suc i)
  found-later f a l d i p h = record { within = suc-le-suc h.within; passes = h.passes; first = before }
    where
      before : (j : ℕ) → j < suc i → f (get_or (a ∷ l) j d) ≡ false
      before zero lt = p
      before (suc j) lt = h.first j (le_of_suc-le-suc lt)

  pub some-first_where : (f : A → Bool) (l : List A) (d : A) (i : ℕ) → first_where f l ≡ some i → FoundAt f l d i
  unfolding first_where
  some-first_where f [] d i e = absurd (let z : ◌≡◌ {A = ℕ} 0 1 = cc in omega arith)
  some-first_where f (a ∷ l) d i e = go (f a) refl (first_where f l) refl e (some-first_where f l d)
    where
      go : (b : Bool) → f a ≡ b → (o : Option ℕ) → first_where f l ≡ o → cond b (some 0) (later o) ≡ some i
          → ((j : ℕ) → first_where f l ≡ some j → FoundAt f l d j) → FoundAt f (a ∷ l) d i
      go true p o r q ih = let e0 : 0 ≡ i = cc in subst (FoundAt f (a ∷ l) d) e0 (found_here f a l d p)
      go false p none r q ih = absurd (let z : ◌≡◌ {A = ℕ} 0 1 = cc in omega arith)
      go false p (some j) r q ih =
          let e1 : suc j ≡ i = cc in
          subst (FoundAt f (a ∷ l) d) e1 (found-later f a l d j p (ih j r))

  -- some element that passes makes `any` pass
  pub any-get_d : (f : A → Bool) (l : List A) (i : ℕ) (d : A) → i < length l → T (f (get_or l i d)) → T (any f l)
  unfolding any
  any-get_d f [] i d lt t = absurd (not-suc-le-zero lt)
  any-get_d f (a ∷ l) zero d lt t = or_left (f a) (any f l) t
  any-get_d f (a ∷ l) (suc i) d lt t = or_right (f a) (any f l) (any-get_d f l i d (le_of_suc-le-suc lt) t)

  -- where no element passes, `any` does not
  pub any_none : (f : A → Bool) (l : List A) → All (λ a. f a ≡ false) l → any f l ≡ false
  unfolding any
  any_none f [] h = refl
  any_none f (a ∷ l) h = rw h.0 (any_none f l h.1)

  -- and where `any` does not pass, no element does
  pub none_any : (f : A → Bool) (l : List A) → any f l ≡ false → All (λ a. f a ≡ false) l
  unfolding any
  none_any f [] e = tt
  none_any f (a ∷ l) e = go (f a) refl e (none_any f l)
    where
      go : (b : Bool) → f a ≡ b → (b || any f l) ≡ false → (any f l ≡ false → All (λ a. f a ≡ false) l) → All (λ a. f a ≡ false) (a ∷ l)
      go true p q ih = absurd (true≢false q)
      go false p q ih = (p, ih q)

  -- tests that agree on the list's elements
  pub any-congr-all : (f g : A → Bool) (l : List A) → All (λ a. f a ≡ g a) l → any f l ≡ any g l
  unfolding any
  any-congr-all f g [] h = refl
  any-congr-all f g (a ∷ l) h = ap₂ ◌||◌ h.0 (any-congr-all f g l h.1)

  pub any-map : {B : Type 0} (f : A → Bool) (g : B → A) (l : List B) → any f (map g l) ≡ any (λ b. f (g b)) l
  unfolding any
  any-map f g [] = refl
  any-map f g (b ∷ l) = ap (λ t. f (g b) || t) (any-map f g l)
