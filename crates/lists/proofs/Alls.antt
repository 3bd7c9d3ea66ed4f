-- What holds of every element of a list. Assumes nothing.
use Prim.Native.Nat.{ℕ, zero, suc, ◌*◌, ◌<◌, suc-le-suc}
use native.Mathlib.Omega.{arith}
use native.Mathlib.Nat.{not-suc-le-zero, le_of_suc-le-suc, zero-lt-suc, suc-mul}
use mathlib.Core.Path.{◌≡◌, ◌∙◌}
use mathlib.Core.Bool.{Bool}
use mathlib.Core.List.{List, [], ◌∷◌, ◌++◌, map, flatten}
use lib.ListN.{length, get_or, take, drop, length-append}
use lib.Dec.{T}
use Rattle.lists.specs.Lists.{All, every}
use Rattle.lists.proofs.Tests.{and_left, and_right, and_both}

module _ {A : Type 0} where
  -- what holds of everything
  pub all_of : (P : A → Type 0) → ((a : A) → P a) → (l : List A) → All P l
  all_of P h [] = tt
  all_of P h (a ∷ l) = (h a, all_of P h l)

  pub all_append : (P : A → Type 0) (l m : List A) → All P l → All P m → All P (l ++ m)
  all_append P [] m h g = g
  all_append P (a ∷ l) m h g = (h.0, all_append P l m h.1 g)

  pub all-append-left : (P : A → Type 0) (l m : List A) → All P (l ++ m) → All P l
  all-append-left P [] m h = tt
  all-append-left P (a ∷ l) m h = (h.0, all-append-left P l m h.1)

  pub all-append-right : (P : A → Type 0) (l m : List A) → All P (l ++ m) → All P m
  all-append-right P [] m h = h
  all-append-right P (a ∷ l) m h = all-append-right P l m h.1

  pub all-imp : (P Q : A → Type 0) → ((a : A) → P a → Q a) → (l : List A) → All P l → All Q l
  all-imp P Q f [] h = tt
  all-imp P Q f (a ∷ l) h = (f a h.0, all-imp P Q f l h.1)

  -- two statements at once
  pub all_both : (P Q : A → Type 0) (l : List A) → All P l → All Q l → All (λ a. P a × Q a) l
  all_both P Q [] h g = tt
  all_both P Q (a ∷ l) h g = ((h.0, g.0), all_both P Q l h.1 g.1)

  pub all_map : {B : Type 0} (P : A → Type 0) (g : B → A) (l : List B) → All (λ b. P (g b)) l → All P (map g l)
  all_map P g [] h = tt
  all_map P g (b ∷ l) h = (h.0, all_map P g l h.1)

  pub all_of_map : {B : Type 0} (P : A → Type 0) (g : B → A) (l : List B) → All P (map g l) → All (λ b. P (g b)) l
  all_of_map P g [] h = tt
  all_of_map P g (b ∷ l) h = (h.0, all_of_map P g l h.1)

  pub all_get_d : (P : A → Type 0) (l : List A) (i : ℕ) (d : A) → All P l → i < length l → P (get_or l i d)
  all_get_d P [] i d h lt = absurd (not-suc-le-zero lt)
  all_get_d P (a ∷ l) zero d h lt = h.0
  all_get_d P (a ∷ l) (suc i) d h lt = all_get_d P l i d h.1 (le_of_suc-le-suc lt)

  -- past the end too, where it holds of the default
  pub all-get_d-default : (P : A → Type 0) (l : List A) (i : ℕ) (d : A) → P d → All P l → P (get_or l i d)
  all-get_d-default P [] i d z h = z
  all-get_d-default P (a ∷ l) zero d z h = h.0
  all-get_d-default P (a ∷ l) (suc i) d z h = all-get_d-default P l i d z h.1

  pub get_d-all : (P : A → Type 0) (d : A) (l : List A) → ((i : ℕ) → i < length l → P (get_or l i d)) → All P l
  get_d-all P d [] h = tt
  get_d-all P d (a ∷ l) h = (h zero (zero-lt-suc _), get_d-all P d l (λ i lt. h (suc i) (suc-le-suc lt)))

  pub all-flatten : (P : A → Type 0) (ls : List (List A)) → All (All P) ls → All P (flatten ls)
  unfolding flatten
  all-flatten P [] h = tt
  all-flatten P (l ∷ ls) h = all_append P l (flatten ls) h.0 (all-flatten P ls h.1)

  -- lists of r elements each, one after another
  pub length-flatten : (r : ℕ) (ls : List (List A)) → All (λ l. length l ≡ r) ls → length (flatten ls) ≡ length ls * r
  unfolding flatten
  length-flatten r [] h = omega arith
  length-flatten r (l ∷ ls) h =
      length-append l (flatten ls) ∙ rw (h.0, length-flatten r ls h.1, suc-mul) (omega arith)

  pub all_take : (P : A → Type 0) (n : ℕ) (l : List A) → All P l → All P (take n l)
  all_take P zero l h = tt
  all_take P (suc n) [] h = tt
  all_take P (suc n) (a ∷ l) h = (h.0, all_take P n l h.1)

  pub all_drop : (P : A → Type 0) (n : ℕ) (l : List A) → All P l → All P (drop n l)
  all_drop P zero l h = h
  all_drop P (suc n) [] h = tt
  all_drop P (suc n) (a ∷ l) h = all_drop P n l h.1

  -- the computed test and the statement
  pub every-all : (f : A → Bool) (l : List A) → T (every f l) → All (λ a. T (f a)) l
  unfolding every
  every-all f [] t = tt
  every-all f (a ∷ l) t = (and_left (f a) (every f l) t, every-all f l (and_right (f a) (every f l) t))

  pub all-every : (f : A → Bool) (l : List A) → All (λ a. T (f a)) l → T (every f l)
  unfolding every
  all-every f [] h = tt
  all-every f (a ∷ l) h = and_both (f a) (every f l) h.0 (all-every f l h.1)
