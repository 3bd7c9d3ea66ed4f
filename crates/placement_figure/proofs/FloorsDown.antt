-- The nested floors floor by floor, as the code takes them: what each turn of the loop keeps, and that no product wraps.
-- Assumes nothing.
use Prim.Native.Nat.{ℕ, zero, suc, ◌*◌, ◌-◌, ◌/◌, ◌^◌, ◌≤◌, ◌<◌}
use native.Mathlib.Omega.{arith}
use native.Mathlib.Nat.{le_refl, lt_of_le_of_lt, div-le_self, one-le-pow, pow-succ', pow-le-pow_right, mul-le-mul, mul-le-mul_left, mul-le-mul_right}
use mathlib.Core.Path.{◌≡◌, refl}
use Rattle.packing.specs.Floors.{floors_down}

-- What each turn keeps: the floors that are left on w are all of them on lambda, and w times 255 for each product that is
-- left stays below 2^64.
pub record FloorsTurn (k s x lambda w i : ℕ) : Type 0 where
  pub inside : i ≤ x
  pub fits : w * 255 ^ suc i ≤ 16_777_216 * 255 ^ 5
  pub same : floors_down k s i w ≡ floors_down k s x lambda

pub floors-hold : (k s x lambda : ℕ) → x < 5 → lambda ≤ 16_777_216 → FloorsTurn k s x lambda lambda x
floors-hold k s x lambda h l =
    record { inside = le_refl x; fits = mul-le-mul l (pow-le-pow_right {n = 255} (omega arith) {i = suc x} h); same = refl }

-- w × m × p for w × 255 × p
product_le : (w m p most : ℕ) → m ≤ 255 → 1 ≤ p → w * (255 * p) ≤ most → w * m ≤ most
product_le w m p most small one h =
    let a : w * m ≤ w * 255 = mul-le-mul_left w small in
    let b : w * 255 * 1 ≤ w * 255 * p = mul-le-mul_left (w * 255) one in
    omega arith

-- one product with its floor, before the others
step-le : (w m d p most : ℕ) → m ≤ 255 → w * (255 * p) ≤ most → w * m / d * p ≤ most
step-le w m d p most small h =
    let a : w * m / d * p ≤ w * m * p = mul-le-mul_right p (div-le_self (w * m) d) in
    let b : w * m * p ≤ w * 255 * p = mul-le-mul_right p (mul-le-mul_left w small) in
    omega arith

module _ (k s x lambda w i : ℕ) (small : k ≤ 255) (turn : FloorsTurn k s x lambda w i) where
  -- each product fits 64 bits
  pub product-fits : (m : ℕ) → m ≤ 255 → w * m < 2 ^ 64
  product-fits m le =
      let h = rw (pow-succ' 255 i) at turn.fits in
      lt_of_le_of_lt (product_le w m (255 ^ i) (16_777_216 * 255 ^ 5) le (one-le-pow i 255 (omega arith)) h) (omega arith)

  pub floors-again : 0 < i → FloorsTurn k s x lambda (w * (k - i) / (s - i)) (i - 1)
  unfolding floors_down
  floors-again h = go i turn.inside turn.fits turn.same h
    where
      go : (i : ℕ) → i ≤ x → w * 255 ^ suc i ≤ 16_777_216 * 255 ^ 5 → floors_down k s i w ≡ floors_down k s x lambda → 0 < i
          → FloorsTurn k s x lambda (w * (k - i) / (s - i)) (i - 1)
      go zero inside fits same pos = absurd (omega arith)
      go (suc i) inside fits same pos =
          let e : suc i - 1 ≡ i = omega arith in
          rw e
          (record {
            inside = omega arith;
            fits =
                step-le w (k - suc i) (s - suc i) (255 ^ suc i) (16_777_216 * 255 ^ 5) (omega arith)
                (rw (pow-succ' 255 (suc i)) at fits);
            same = same;
          })

  pub floors-done : i ≤ 0 → w * k / s ≡ floors_down k s x lambda
  unfolding floors_down
  floors-done h = go i h turn.same
    where
      go : (i : ℕ) → i ≤ 0 → floors_down k s i w ≡ floors_down k s x lambda → w * k / s ≡ floors_down k s x lambda
      go zero h same = same
      go (suc i) h same = absurd (omega arith)
