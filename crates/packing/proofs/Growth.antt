-- How nested floors grow with lambda: they never fall, those of a sum are at least the sum of those of its parts, and they
-- repeat with the period s × (s-1) × .. × (s-x). Assumes nothing.
use Prim.Native.Nat.{ℕ, zero, suc, ◌+◌, ◌*◌, ◌-◌, ◌/◌, ◌^◌, ◌≤◌, ◌<◌}
use native.Mathlib.Nat.{le_trans, zero-mul, zero-div, div-zero, mul-le-mul, mul-le-mul_left, mul-le-mul_right, mul-pos, le-div_iff_mul-le, div-mul-le_self, div-le_self, add-mul-div_right, zero-lt-suc, pow-suc, pow-zero}
use native.Mathlib.Omega.{arith}
use mathlib.Core.Path.{◌≡◌, ◌∙◌}
use lib.Dec.{lit≤}
use Rattle.lists.proofs.Arith.{div-le-div-right}
use Rattle.packing.specs.Floors.{floors_down, falling}

-- one floor
pub floor-mono : (k s a b : ℕ) → a ≤ b → a * k / s ≤ b * k / s
floor-mono k s a b h = div-le-div-right (a * k) (b * k) s (mul-le-mul_right k h)

floor-add-le : (k s a b : ℕ) → a * k / s + b * k / s ≤ (a + b) * k / s
floor-add-le k zero a b = rw (div-zero (a * k), div-zero (b * k)) (omega arith)
floor-add-le k (suc s) a b =
    let p = div-mul-le_self (a * k) (suc s) in
    let q = div-mul-le_self (b * k) (suc s) in
    (le-div_iff_mul-le (zero-lt-suc s)).1 (omega arith)

floor-period : (k s a t : ℕ) → 0 < s → (a + t * s) * k / s ≡ a * k / s + t * k
floor-period k s a t h =
    let e : (a + t * s) * k ≡ a * k + t * k * s = omega arith in
    rw e (add-mul-div_right (a * k) (t * k) h)

pub floors_down-mono : (k s x a b : ℕ) → a ≤ b → floors_down k s x a ≤ floors_down k s x b
unfolding floors_down
floors_down-mono k s zero a b h = floor-mono k s a b h
floors_down-mono k s (suc x) a b h = floors_down-mono k s x _ _ (floor-mono (k - suc x) (s - suc x) a b h)

-- more failures lose no less
pub floors_down-grows : (k k' s x lambda : ℕ) → k ≤ k' → floors_down k s x lambda ≤ floors_down k' s x lambda
unfolding floors_down
floors_down-grows k k' s zero lambda h = div-le-div-right (lambda * k) (lambda * k') s (mul-le-mul_left lambda h)
floors_down-grows k k' s (suc x) lambda h =
    le_trans (floors_down-grows k k' s x (lambda * (k - suc x) / (s - suc x)) h)
    (floors_down-mono k' s x _ _
    (div-le-div-right (lambda * (k - suc x)) (lambda * (k' - suc x)) (s - suc x) (mul-le-mul_left lambda (omega arith))))

pub floors_down-zero : (k s x : ℕ) → floors_down k s x 0 ≡ 0
unfolding floors_down
floors_down-zero k s zero = rw (zero-mul k, zero-div s)
floors_down-zero k s (suc x) = rw (zero-mul (k - suc x), zero-div (s - suc x)) (floors_down-zero k s x)

pub floors_down-add-le : (k s x a b : ℕ) → floors_down k s x a + floors_down k s x b ≤ floors_down k s x (a + b)
unfolding floors_down
floors_down-add-le k s zero a b = floor-add-le k s a b
floors_down-add-le k s (suc x) a b =
    le_trans (floors_down-add-le k s x _ _) (floors_down-mono k s x _ _ (floor-add-le (k - suc x) (s - suc x) a b))

-- d times a lambda loses at least d times as much
pub floors_down-mul-le : (k s x a d : ℕ) → d * floors_down k s x a ≤ floors_down k s x (d * a)
floors_down-mul-le k s x a zero = omega arith
floors_down-mul-le k s x a (suc d) =
    let e : suc d * a ≡ a + d * a = omega arith in
    let h = floors_down-add-le k s x a (d * a) in
    let ih = floors_down-mul-le k s x a d in
    rw e (omega arith)

-- t more of the product of s, s-1, .., s-x lose t more of the product of k, k-1, .., k-x
pub floors_down-period : (k s x a t : ℕ) → x < s → floors_down k s x (a + t * falling s x) ≡ floors_down k s x a + t * falling k x
unfolding floors_down falling
floors_down-period k s zero a t h = floor-period k s a t h
floors_down-period k s (suc x) a t h =
    let e : a + t * (falling s x * (s - suc x)) ≡ a + t * falling s x * (s - suc x) = omega arith in
    let q : (a + t * falling s x * (s - suc x)) * (k - suc x) / (s - suc x)
    ≡ a * (k - suc x) / (s - suc x) + t * (k - suc x) * falling s x =
    floor-period (k - suc x) (s - suc x) a (t * falling s x) (omega arith) ∙ omega arith in
    rw (e, q) (floors_down-period k s x _ (t * (k - suc x)) (omega arith) ∙ omega arith)

-- the floors drop nothing but what is below one: a product bounds them
pub floors_down-le : (k s x a : ℕ) → floors_down k s x a ≤ a * k ^ suc x
unfolding floors_down
floors_down-le k s zero a =
    let h = div-le_self (a * k) s in
    rw (pow-suc k 0, pow-zero k) (omega arith)
floors_down-le k s (suc x) a =
    let h = floors_down-le k s x (a * (k - suc x) / (s - suc x)) in
    let g = div-le_self (a * (k - suc x)) (s - suc x) in
    let l : a * (k - suc x) ≤ a * k = mul-le-mul_left a (omega arith) in
    let m = mul-le-mul_right (k ^ suc x) (le_trans g l) in
    rw (pow-suc k (suc x)) (omega arith)

pub falling-pos : (s x : ℕ) → x < s → 0 < falling s x
unfolding falling
falling-pos s zero h = h
falling-pos s (suc x) h = mul-pos (falling-pos s x (omega arith)) (omega arith)

pub falling-mono : (s t x : ℕ) → s ≤ t → falling s x ≤ falling t x
unfolding falling
falling-mono s t zero h = h
falling-mono s t (suc x) h = mul-le-mul (falling-mono s t x h) (omega arith)

-- of at most five factors from five down
pub falling-le-120 : (s x : ℕ) → s ≤ 5 → x < 5 → falling s x ≤ 120
unfolding falling
falling-le-120 s x h l = le_trans (falling-mono s 5 x h) (most x l)
  where
    most : (y : ℕ) → y < 5 → falling 5 y ≤ 120
    most zero l = lit≤ tt
    most (suc zero) l = lit≤ tt
    most (suc (suc zero)) l = lit≤ tt
    most (suc (suc (suc zero))) l = lit≤ tt
    most (suc (suc (suc (suc zero)))) l = lit≤ tt
    most (suc (suc (suc (suc (suc y))))) l = absurd (omega arith)
