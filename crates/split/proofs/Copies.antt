-- The least copies of m blocks that hold c records, and what they lose. Assumes nothing.
use Prim.Native.Nat.{ℕ, zero, suc, ◌+◌, ◌*◌, ◌-◌, ◌≤◌, ◌<◌, zero-le}
use native.Mathlib.Nat.{div-zero, lt-div-mul-add, div-lt_iff_lt-mul, suc-mul, le-mul_of_pos_right}
use native.Mathlib.Omega.{arith}
use mathlib.Core.Path.{◌≡◌}
use Rattle.split.specs.Splits.{copies_for}

-- "the least d"
pub copies_for-le : (c m d : ℕ) → 1 ≤ m → c ≤ d * m → copies_for c m ≤ d
copies_for-le c m d h g =
    let e = suc-mul d m in
    let k : c + (m - 1) < suc d * m = omega arith in
    let l = (div-lt_iff_lt-mul h).1 k in
    omega arith

-- "with c at most d × m"
pub le-copies_for-mul : (c m : ℕ) → 1 ≤ m → c ≤ copies_for c m * m
le-copies_for-mul c m h = let g = lt-div-mul-add {a = c + (m - 1)} h in omega arith

pub copies_for-no-blocks : (c : ℕ) → copies_for c 0 ≡ 0
copies_for-no-blocks c = div-zero (c + (0 - 1))

-- the least d that holds c: with no block only 0 records are held
pub copies_for-least : (c m d : ℕ) → c ≤ d * m → copies_for c m ≤ d
copies_for-least c zero d g = rw (copies_for-no-blocks c) zero-le
copies_for-least c (suc m) d g = copies_for-le c (suc m) d (omega arith) g

-- no more copies than records
pub copies_for-le-self : (c m : ℕ) → copies_for c m ≤ c
copies_for-le-self c zero = rw (copies_for-no-blocks c) zero-le
copies_for-le-self c (suc m) =
    copies_for-le c (suc m) c (omega arith) (le-mul_of_pos_right c (omega arith))
