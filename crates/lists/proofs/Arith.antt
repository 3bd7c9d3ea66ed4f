-- Laws of numbers that the kit lacks. Assumes nothing.
use Prim.Native.Nat.{ℕ, zero, suc, ◌+◌, ◌*◌, ◌/◌, ◌≤◌, ◌<◌, zero-le}
use native.Mathlib.Omega.{arith}
use native.Mathlib.Nat.{le_trans, mul-le-mul_right, suc-mul, div-zero, le-div_iff_mul-le, div-mul-le_self, zero-lt-suc}
use mathlib.Core.Path.{◌≡◌, refl}
use mathlib.Core.Logic.{◌⊎◌, inl, inr}
use mathlib.Core.Bool.{Bool, true, false}
use lib.Dec.{leb}
use borrow.Author.Tests.{leb-true, leb-false}

pub le-or-lt : (a b : ℕ) → (a ≤ b) ⊎ (b < a)
le-or-lt a b = go (leb a b) refl
  where
    go : (t : Bool) → leb a b ≡ t → (a ≤ b) ⊎ (b < a)
    go true e = inl (leb-true a b e)
    go false e = inr (leb-false a b e)

-- floors keep the order
pub div-le-div-right : (a b m : ℕ) → a ≤ b → a / m ≤ b / m
div-le-div-right a b zero h = rw (div-zero a) zero-le
div-le-div-right a b (suc m) h = (le-div_iff_mul-le (zero-lt-suc m)).1 (le_trans (div-mul-le_self a (suc m)) h)

-- of n runs of w each, run x ends within them all
pub run-end-le : {x n : ℕ} (w : ℕ) → x < n → x * w + w ≤ n * w
run-end-le {x} w h = rw (suc-mul x w) at (mul-le-mul_right w h)

-- what is not above a product with 0 is 0
pub pos-of-le-mul : (c d m : ℕ) → c ≤ d * m → 0 < c → 0 < m
pos-of-le-mul c d zero h some = omega arith
pos-of-le-mul c d (suc m) h some = omega arith
