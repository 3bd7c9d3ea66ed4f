-- Counts over the numbers below n. Assumes nothing.
use Prim.Native.Nat.{ℕ, zero, suc, ◌+◌, ◌-◌, ◌≤◌, ◌<◌}
use native.Mathlib.Omega.{arith}
use native.Mathlib.Nat.{le_step, lt-suc_self, zero-add, add-zero, add-suc, add-sub_of_le}
use mathlib.Core.Path.{◌≡◌, refl, sym, ◌∙◌, ap}
use mathlib.Core.Bool.{Bool}
use mathlib.Core.List.{List, [], ◌∷◌}
use lib.ListN.{length, get_or}
use Rattle.lists.specs.Lists.{tally, count, up_to}
use Rattle.lists.proofs.Counts.{tally-add, count-append}

-- one number more at the end, or in front
count-up_to-zero : (f : ℕ → Bool) → count f (up_to 0) ≡ 0
unfolding count up_to
count-up_to-zero f = refl

pub count-up_to-suc : (f : ℕ → Bool) (n : ℕ) → count f (up_to (suc n)) ≡ count f (up_to n) + tally (f n) 0
unfolding count up_to
count-up_to-suc f n = count-append f (up_to n) (n ∷ [])

pub count-up_to-front : (f : ℕ → Bool) (n : ℕ) → count f (up_to (suc n)) ≡ tally (f 0) (count (λ j. f (suc j)) (up_to n))
count-up_to-front f zero = rw (count-up_to-suc f 0, count-up_to-zero f, count-up_to-zero (λ j. f (suc j))) (zero-add _)
count-up_to-front f (suc n) =
    rw (count-up_to-suc f (suc n), count-up_to-front f n, count-up_to-suc (λ j. f (suc j)) n) (tally-add (f 0) _ _)

-- the numbers below a, and the b numbers from a on
pub count-up_to-add : (f : ℕ → Bool) (a b : ℕ) → count f (up_to (a + b)) ≡ count f (up_to a) + count (λ j. f (a + j)) (up_to b)
count-up_to-add f a zero = rw (add-zero a, count-up_to-zero (λ j. f (a + j)), add-zero)
count-up_to-add f a (suc b) =
    rw (add-suc a b, count-up_to-suc f (a + b), count-up_to-suc (λ j. f (a + j)) b, count-up_to-add f a b) (omega arith)

pub count-up_to-mono : (f : ℕ → Bool) (a b : ℕ) → a ≤ b → count f (up_to a) ≤ count f (up_to b)
count-up_to-mono f a b h =
    let e = count-up_to-add f a (b - a) in
    let g = ap (λ n. count f (up_to n)) (add-sub_of_le h) in
    omega arith

-- tests that agree below n
pub count-up_to-congr : (f g : ℕ → Bool) (n : ℕ) → ((j : ℕ) → j < n → f j ≡ g j) → count f (up_to n) ≡ count g (up_to n)
count-up_to-congr f g zero h = count-up_to-zero f ∙ sym (count-up_to-zero g)
count-up_to-congr f g (suc n) h =
    rw (count-up_to-suc f n, count-up_to-suc g n, h n (lt-suc_self n), count-up_to-congr f g n (λ j lt. h j (le_step lt)))

-- a list's elements by their places
pub count-get_d : {A : Type 0} (f : A → Bool) (d : A) (l : List A) → count f l ≡ count (λ j. f (get_or l j d)) (up_to (length l))
unfolding count
count-get_d f d [] = sym (count-up_to-zero (λ j. f d))
count-get_d f d (a ∷ l) = ap (tally (f a)) (count-get_d f d l) ∙ sym (count-up_to-front (λ j. f (get_or (a ∷ l) j d)) (length l))
