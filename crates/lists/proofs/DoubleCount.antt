-- Counting pairs in two ways, and how often a number stands in a list. Assumes nothing.
use Prim.Native.Nat.{ℕ, zero, suc, ◌+◌, ◌*◌, ◌≤◌, ◌<◌, zero-le}
use native.Mathlib.Omega.{arith}
use native.Mathlib.Nat.{not-suc-le-zero, le_trans, le_of_eq}
use mathlib.Core.Path.{◌≡◌, refl, sym, ◌∙◌, ap, subst}
use mathlib.Core.Bool.{Bool, true, false, not, ◌&&◌}
use mathlib.Core.List.{List, [], ◌∷◌}
use lib.Dec.{T, eqb, eqb→eq}
use borrow.Author.Tests.{ne_eqb, eqb-true, eqb-false}
use Rattle.lists.specs.Lists.{All, tally, count, up_to}
use Rattle.lists.proofs.Tests.{T-not-false}
use Rattle.lists.proofs.Counts.{tally-mono}
use Rattle.lists.proofs.CountUpTo.{count-up_to-suc}

module _ {A : Type 0} where
  -- `count-mono` where one test passes with another only on the list's elements
  pub count-mono-all : (f g : A → Bool) (l : List A) → All (λ a. T (f a) → T (g a)) l → count f l ≤ count g l
  unfolding count
  count-mono-all f g [] h = zero-le
  count-mono-all f g (a ∷ l) h = tally-mono (f a) (g a) (count f l) (count g l) h.0 (count-mono-all f g l h.1)

  pub count_none : (f : A → Bool) (l : List A) → ((a : A) → T (f a) → ⊥) → count f l ≡ 0
  unfolding count
  count_none f [] h = refl
  count_none f (a ∷ l) h = go (f a) (h a) (count_none f l h)
    where
      go : (b : Bool) → (T b → ⊥) → count f l ≡ 0 → tally b (count f l) ≡ 0
      go true n e = absurd (n tt)
      go false n e = e

  -- where none of the list's elements passes
  pub count-none-all : (f : A → Bool) (l : List A) → All (λ a. T (f a) → ⊥) l → count f l ≡ 0
  unfolding count
  count-none-all f [] h = refl
  count-none-all f (a ∷ l) h = rw (T-not-false (f a) h.0) (count-none-all f l h.1)

module _ {A B : Type 0} (R : A → B → Bool) where
  -- how many pairs of an element of each list are related
  pairs : List A → List B → ℕ
  pairs [] m = 0
  pairs (a ∷ l) m = count (R a) m + pairs l m

  pairs-nil : (l : List A) → pairs l [] ≡ 0
  unfolding pairs count
  pairs-nil [] = refl
  pairs-nil (a ∷ l) = rw (pairs-nil l)

  pairs-cons : (l : List A) (b : B) (m : List B) → pairs l (b ∷ m) ≡ count (λ a. R a b) l + pairs l m
  unfolding pairs count
  pairs-cons [] b m = refl
  pairs-cons (a ∷ l) b m = rw (pairs-cons l b m) (go (R a b))
    where
      go : (c : Bool) → tally c (count (R a) m) + (count (λ a. R a b) l + pairs l m) ≡ tally c (count (λ a. R a b) l) + (count (R a) m + pairs l m)
      go true = omega arith
      go false = omega arith

  le-pairs : (P : A → Bool) (s : ℕ) (l : List A) (m : List B) → All (λ a. T (P a) → s ≤ count (R a) m) l → s * count P l ≤ pairs l m
  unfolding pairs count
  le-pairs P s [] m h = omega arith
  le-pairs P s (a ∷ l) m h = go (P a) h.0 (le-pairs P s l m h.1)
    where
      go : (b : Bool) → (T b → s ≤ count (R a) m) → s * count P l ≤ pairs l m → s * tally b (count P l) ≤ count (R a) m + pairs l m
      go true f ih = let g = f tt in omega arith
      go false f ih = omega arith

  pairs-le : (Q : B → Bool) (t : ℕ) (l : List A) (m : List B) → ((a : A) (b : B) → T (R a b) → T (Q b))
      → All (λ b. T (Q b) → count (λ a. R a b) l ≤ t) m → pairs l m ≤ t * count Q m
  unfolding count
  pairs-le Q t l [] only h = rw (pairs-nil l) zero-le
  pairs-le Q t l (b ∷ m) only h = rw (pairs-cons l b m) (go (Q b) refl h.0 (pairs-le Q t l m only h.1))
    where
      go : (c : Bool) → Q b ≡ c → (T c → count (λ a. R a b) l ≤ t) → pairs l m ≤ t * count Q m
          → count (λ a. R a b) l + pairs l m ≤ t * tally c (count Q m)
      go true e f ih = let g = f tt in omega arith
      go false e f ih = rw (count_none (λ a. R a b) l (λ a r. subst T e (only a b r))) (omega arith)

  -- Each element of l that passes P is related to at least s elements of m, each of m to at most t of l, and only those
  -- that pass Q to any: then s for each that passes P is at most t for each that passes Q.
  pub double-count : (P : A → Bool) (Q : B → Bool) (s t : ℕ) (l : List A) (m : List B) → All (λ a. T (P a) → s ≤ count (R a) m) l
      → ((a : A) (b : B) → T (R a b) → T (Q b)) → All (λ b. T (Q b) → count (λ a. R a b) l ≤ t) m → s * count P l ≤ t * count Q m
  double-count P Q s t l m least only most = le_trans (le-pairs P s l m least) (pairs-le Q t l m only most)

tally-split : (a e : Bool) (m n : ℕ) → (T e → T a) → tally a (m + n) ≡ tally e m + tally (a && not e) n
tally-split true true m n h = omega arith
tally-split true false m n h = omega arith
tally-split false true m n h = absurd (h tt)
tally-split false false m n h = refl

-- where v passes, those that pass are v, as often as it is there, and the others
pub count-split : (f : ℕ → Bool) (v : ℕ) → T (f v) → (l : List ℕ) → count f l ≡ count (eqb v) l + count (λ w. f w && not (eqb v w)) l
unfolding count
count-split f v t [] = refl
count-split f v t (w ∷ l) =
    ap (tally (f w)) (count-split f v t l)
    ∙ tally-split (f w) (eqb v w) (count (eqb v) l) (count (λ u. f u && not (eqb v u)) l) (λ e. subst (λ u. T (f u)) (eqb→eq v w e) t)

count-eqb-up_to-of-le : (v n : ℕ) → n ≤ v → count (eqb v) (up_to n) ≡ 0
unfolding up_to count
count-eqb-up_to-of-le v zero h = refl
count-eqb-up_to-of-le v (suc n) h =
    count-up_to-suc (eqb v) n ∙ rw (count-eqb-up_to-of-le v n (omega arith), ne_eqb v n (λ e. omega arith))

-- each number below n is once among them
pub count-eqb-up_to : (v n : ℕ) → v < n → count (eqb v) (up_to n) ≡ 1
count-eqb-up_to v zero h = absurd (not-suc-le-zero h)
count-eqb-up_to v (suc n) h = count-up_to-suc (eqb v) n ∙ go (eqb v n) refl (count-eqb-up_to v n)
  where
    go : (b : Bool) → eqb v n ≡ b → (v < n → count (eqb v) (up_to n) ≡ 1) → count (eqb v) (up_to n) + tally b 0 ≡ 1
    go true e ih = rw (count-eqb-up_to-of-le v n (le_of_eq (sym (eqb-true v n e))))
    go false e ih = let d = eqb-false v n e in rw (ih (omega arith))
