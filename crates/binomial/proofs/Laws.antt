-- Laws of binomial coefficients, and the bounds that code needs so that they and their products fit. Assumes nothing.
use mathlib.Core.Path.{◌≡◌, refl}
use Prim.Native.Nat.{ℕ, zero, suc, ◌+◌, ◌*◌, ◌^◌, ◌≤◌, ◌<◌}
use native.Mathlib.Nat.{le_of_lt, lt_of_le_of_lt, add-le-add, mul-le-mul}
use native.Mathlib.Omega.{arith}
use lib.Dec.{lit<}
use Rattle.binomial.specs.Choose.{choose}

pub choose-zero : (m : ℕ) → choose m 0 ≡ 1
unfolding choose
choose-zero m = refl

pub zero-choose : (j : ℕ) → choose 0 (suc j) ≡ 0
unfolding choose
zero-choose j = refl

-- "C(m+1,j+1) = C(m,j) + C(m,j+1)"
pub pascal : (m j : ℕ) → choose (suc m) (suc j) ≡ choose m j + choose m (suc j)
unfolding choose
pascal m j = refl

-- "0 where j is above m"
pub choose-zero-of-lt : (m j : ℕ) → m < j → choose m j ≡ 0
unfolding choose
choose-zero-of-lt m zero h = omega arith
choose-zero-of-lt zero (suc j) h = refl
choose-zero-of-lt (suc m) (suc j) h =
    omega (arith, choose-zero-of-lt m j (omega arith), choose-zero-of-lt m (suc j) (omega arith))

pub choose-self : (m : ℕ) → choose m m ≡ 1
unfolding choose
choose-self zero = refl
choose-self (suc m) = omega (arith, choose-self m, choose-zero-of-lt m (suc m) (omega arith))

pub choose_one : (m : ℕ) → choose m 1 ≡ m
unfolding choose
choose_one zero = refl
choose_one (suc m) = omega (arith, choose_one m)

pub choose-positive : (m j : ℕ) → j ≤ m → 1 ≤ choose m j
unfolding choose
choose-positive m zero h = omega arith
choose-positive zero (suc j) h = omega arith
choose-positive (suc m) (suc j) h = omega (arith, choose-positive m j (omega arith))

pub choose-mono : (m m' j : ℕ) → m ≤ m' → choose m j ≤ choose m' j
unfolding choose
choose-mono m m' zero h = omega arith
choose-mono zero m' (suc j) h = omega arith
choose-mono (suc m) zero (suc j) h = omega arith
choose-mono (suc m) (suc m') (suc j) h =
    add-le-add (choose-mono m m' j (omega arith)) (choose-mono m m' (suc j) (omega arith))

-- each of the C(m+1,j+1) sets is counted once for each of its j+1 elements: that element, and a j-element set of the others
pub choose-absorb : (m j : ℕ) → suc j * choose (suc m) (suc j) ≡ suc m * choose m j
unfolding choose
choose-absorb m zero = omega (arith, choose_one m)
choose-absorb zero (suc j) = omega arith
choose-absorb (suc m) (suc j) = omega (arith, choose-absorb m j, choose-absorb m (suc j))

-- what holds in columns 0 to 5 holds in each column that the table has
columns : (P : ℕ → Type 0) → P 0 → P 1 → P 2 → P 3 → P 4 → P 5 → (j : ℕ) → j ≤ 5 → P j
columns P a b c d e f zero h = a
columns P a b c d e f (suc zero) h = b
columns P a b c d e f (suc (suc zero)) h = c
columns P a b c d e f (suc (suc (suc zero))) h = d
columns P a b c d e f (suc (suc (suc (suc zero)))) h = e
columns P a b c d e f (suc (suc (suc (suc (suc zero))))) h = f
columns P a b c d e f (suc (suc (suc (suc (suc (suc j)))))) h = absurd (omega arith)

-- every entry of the table has at most 34 bits: the largest is C(255,5) = 8,637,487,551, just above 2 ^ 33
pub choose-lt : (m j : ℕ) → m ≤ 255 → j ≤ 5 → choose m j < 2 ^ 34
unfolding choose
choose-lt m j hm hj =
    lt_of_le_of_lt (choose-mono m 255 j hm)
    (columns (λ (i : ℕ). choose 255 i < 2 ^ 34) (lit< tt) (lit< tt) (lit< tt) (lit< tt) (lit< tt) (lit< tt) j hj)

-- as k is at most 254, C(k,j) has at most 33: C(254,5) = 8,468,125,050
pub choose-lt-of-le-254 : (k j : ℕ) → k ≤ 254 → j ≤ 5 → choose k j < 2 ^ 33
unfolding choose
choose-lt-of-le-254 k j hk hj =
    lt_of_le_of_lt (choose-mono k 254 j hk)
    (columns (λ (i : ℕ). choose 254 i < 2 ^ 33) (lit< tt) (lit< tt) (lit< tt) (lit< tt) (lit< tt) (lit< tt) j hj)

-- lambda * C(k,x+1) fits 63 bits, with room
pub mul-choose-lt : (a m j : ℕ) → a ≤ 16_777_216 → m ≤ 255 → j ≤ 5 → a * choose m j < 2 ^ 63
mul-choose-lt a m j ha hm hj =
    lt_of_le_of_lt (mul-le-mul ha (le_of_lt (choose-lt m j hm hj))) (lit< tt)
