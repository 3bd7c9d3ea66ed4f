-- The largest of a list, element by element. Assumes nothing.
use Prim.Native.Nat.{ℕ, zero, suc, ◌+◌, max, ◌≤◌, ◌<◌}
use native.Mathlib.Nat.{not-suc-le-zero, le_of_suc-le-suc}
use native.Mathlib.Omega.{arith}
use mathlib.Core.Path.{◌≡◌, sym, ◌∙◌}
use mathlib.Core.Logic.{⊎_elim}
use mathlib.Core.List.{List, [], ◌∷◌}
use lib.ListN.{length, get_or, set, drop, drop_of_length-le}
use Rattle.lists.specs.Lists.{largest}
use Rattle.lists.proofs.Arith.{le-or-lt}
use Rattle.lists.proofs.Parts.{drop-next}

-- the largest is at least each, and at most what each is at most
pub largest-le : (l : List ℕ) (i : ℕ) → get_or l i 0 ≤ largest l
unfolding largest
largest-le [] i = omega arith
largest-le (n ∷ l) zero = omega arith
largest-le (n ∷ l) (suc i) = omega (arith, largest-le l i)

pub largest-most : (l : List ℕ) (m : ℕ) → ((i : ℕ) → get_or l i 0 ≤ m) → largest l ≤ m
unfolding largest
largest-most [] m h = omega arith
largest-most (n ∷ l) m h = omega (arith, h 0, largest-most l m (λ i. h (suc i)))

-- the largest of some numbers is one of them
pub largest-reached : (l : List ℕ) → 0 < length l → (i : ℕ) × (i < length l) × (get_or l i 0 ≡ largest l)
unfolding largest
largest-reached [] h = absurd (not-suc-le-zero h)
largest-reached (n ∷ []) h = (0, omega arith, omega arith)
largest-reached (n ∷ (m ∷ l)) h =
    let (i, lt, e) = largest-reached (m ∷ l) (omega arith) in
    ⊎_elim (λ le. (0, omega arith, omega (arith, le))) (λ gt. (suc i, omega (arith, lt), e ∙ omega (arith, gt)))
    (le-or-lt (largest (m ∷ l)) n)

-- an element is raised
pub largest-set : (l : List ℕ) (i n : ℕ) → i < length l → get_or l i 0 ≤ n → largest (set l i n) ≡ max (largest l) n
unfolding largest
largest-set [] i n h le = absurd (not-suc-le-zero h)
largest-set (m ∷ l) zero n h le = omega (arith, le)
largest-set (m ∷ l) (suc i) n h le = omega (arith, largest-set l i n (le_of_suc-le-suc h) le)

-- a loop that keeps the larger: after one element more, and after the last
pub largest_more : (l : List ℕ) (i best now : ℕ) → largest l ≡ max best (largest (drop i l)) → i < length l
    → now ≡ max best (get_or l i 0) → largest l ≡ max now (largest (drop (i + 1) l))
unfolding largest
largest_more l i best now e h n = e ∙ rw (n, drop-next l i 0 h) (omega arith)

pub largest_all : (l : List ℕ) (i best : ℕ) → largest l ≡ max best (largest (drop i l)) → length l ≤ i → best ≡ largest l
unfolding largest
largest_all l i best e h = sym (e ∙ rw (drop_of_length-le l h) (omega arith))
