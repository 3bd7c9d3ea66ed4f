-- How many elements of a list pass a test; sums. Assumes nothing.
use Prim.Native.Nat.{ℕ, suc, ◌+◌, ◌≤◌, zero-le}
use native.Mathlib.Omega.{arith}
use native.Mathlib.Nat.{le_refl}
use mathlib.Core.Path.{◌≡◌, refl, sym, ◌∙◌, ap, ap₂}
use mathlib.Core.Bool.{Bool, true, false, not}
use mathlib.Core.List.{List, [], ◌∷◌, ◌++◌, map, flatten, append_assoc}
use lib.ListN.{length}
use lib.Dec.{T}
use Rattle.lists.specs.Lists.{All, tally, count, total}

-- a tally is at most one more
pub tally-add : (b : Bool) (m n : ℕ) → tally b m + n ≡ tally b (m + n)
tally-add true m n = omega arith
tally-add false m n = refl

pub add-tally : (b : Bool) (m n : ℕ) → m + tally b n ≡ tally b (m + n)
add-tally true m n = omega arith
add-tally false m n = refl

pub tally-le-suc : (b : Bool) (n : ℕ) → tally b n ≤ suc n
tally-le-suc true n = le_refl _
tally-le-suc false n = omega arith

pub le-tally : (b : Bool) (n : ℕ) → n ≤ tally b n
le-tally true n = omega arith
le-tally false n = le_refl _

pub tally-mono : (a b : Bool) (m n : ℕ) → (T a → T b) → m ≤ n → tally a m ≤ tally b n
tally-mono true true m n f h = omega arith
tally-mono true false m n f h = absurd (f tt)
tally-mono false true m n f h = omega arith
tally-mono false false m n f h = h

tally-not : (b : Bool) (m n : ℕ) → tally b m + tally (not b) n ≡ suc (m + n)
tally-not true m n = omega arith
tally-not false m n = omega arith

module _ {A : Type 0} where
  pub count-append : (f : A → Bool) (l m : List A) → count f (l ++ m) ≡ count f l + count f m
  unfolding count
  count-append f [] m = omega arith
  count-append f (a ∷ l) m = ap (tally (f a)) (count-append f l m) ∙ sym (tally-add (f a) (count f l) (count f m))

  pub count-le-length : (f : A → Bool) (l : List A) → count f l ≤ length l
  unfolding count
  count-le-length f [] = zero-le
  count-le-length f (a ∷ l) =
      let h = count-le-length f l in
      let g = tally-le-suc (f a) (count f l) in
      omega arith

  -- a test that passes wherever another does counts no less
  pub count-mono : (f g : A → Bool) → ((a : A) → T (f a) → T (g a)) → (l : List A) → count f l ≤ count g l
  unfolding count
  count-mono f g h [] = zero-le
  count-mono f g h (a ∷ l) = tally-mono (f a) (g a) (count f l) (count g l) (h a) (count-mono f g h l)

  pub count-congr : (f g : A → Bool) → ((a : A) → f a ≡ g a) → (l : List A) → count f l ≡ count g l
  unfolding count
  count-congr f g h [] = refl
  count-congr f g h (a ∷ l) = rw (h a, count-congr f g h l)

  -- `count-congr` where the tests agree only on the list's elements
  pub count-congr-all : (f g : A → Bool) (l : List A) → All (λ a. f a ≡ g a) l → count f l ≡ count g l
  unfolding count
  count-congr-all f g [] h = refl
  count-congr-all f g (a ∷ l) h = ap₂ tally h.0 (count-congr-all f g l h.1)

  -- those that pass and those that do not are all
  pub count-not : (f : A → Bool) (l : List A) → count f l + count (λ a. not (f a)) l ≡ length l
  unfolding count
  count-not f [] = refl
  count-not f (a ∷ l) = tally-not (f a) (count f l) (count (λ b. not (f b)) l) ∙ ap suc (count-not f l)

  pub count_map : {B : Type 0} (f : A → Bool) (g : B → A) (l : List B) → count f (map g l) ≡ count (λ b. f (g b)) l
  unfolding count
  count_map f g [] = refl
  count_map f g (b ∷ l) = ap (tally (f (g b))) (count_map f g l)

  pub flatten-append : (l m : List (List A)) → flatten (l ++ m) ≡ flatten l ++ flatten m
  unfolding flatten
  flatten-append [] m = refl
  flatten-append (a ∷ l) m = rw (flatten-append l m, append_assoc)

pub total-append : (l m : List ℕ) → total (l ++ m) ≡ total l + total m
unfolding total
total-append [] m = omega arith
total-append (n ∷ l) m = rw (total-append l m) (omega arith)
