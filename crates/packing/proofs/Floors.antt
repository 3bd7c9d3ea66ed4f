-- Nested floors, and that they never pass the one floor of document 01's loss. Assumes nothing.
use Prim.Native.Nat.{ℕ, zero, suc, pred, ◌*◌, ◌-◌, ◌/◌, ◌≤◌, zero-le}
use native.Mathlib.Omega.{arith}
use native.Mathlib.Nat.{sub-zero, mul-zero, zero-mul, zero-div, le_refl, zero-lt-suc, not-suc-le-zero, le_of_suc-le-suc, le-div_iff_mul-le, div-mul-le_self, mul-le-mul_left, mul-le-mul_right, le_of_mul-le-mul_left}
use mathlib.Core.Path.{◌≡◌, refl, sym, ◌∙◌, ap}
use Rattle.binomial.specs.Choose.{choose}
use Rattle.binomial.proofs.Laws.{choose-zero, choose-positive, choose-absorb}
use Rattle.packing.specs.Floors.{floors_down}

-- The nested floors for sets of j nodes, from the outermost in: `floors_down` from x on is that of sets of x+1 nodes.
unfoldable pub nested_floors : (j bound k s : ℕ) → ℕ
nested_floors zero bound k s = bound
nested_floors (suc j) bound k s = nested_floors j bound (pred k) (pred s) * k / s

-- the innermost floor taken first
nested-inner : (j bound k s : ℕ) → nested_floors (suc j) bound k s ≡ nested_floors j (bound * (k - j) / (s - j)) k s
unfolding nested_floors
nested-inner zero bound k s = rw (sub-zero, sub-zero)
nested-inner (suc j) bound k s =
    let ek : pred k - j ≡ k - suc j = omega arith in
    let es : pred s - j ≡ s - suc j = omega arith in
    ap (λ w. w * k / s) (nested-inner j bound (pred k) (pred s) ∙ rw (ek, es))

pub floors_down-nested : (k s x bound : ℕ) → floors_down k s x bound ≡ nested_floors (suc x) bound k s
unfolding floors_down nested_floors
floors_down-nested k s zero bound = refl
floors_down-nested k s (suc x) bound =
    floors_down-nested k s x (bound * (k - suc x) / (s - suc x)) ∙ sym (nested-inner (suc x) bound k s)

-- q is a floor of w × k / s; absorption takes c to C and d to D
mul-le-of-absorb : (q w j s k c C d D bound : ℕ) → q * s ≤ w * k → w * c ≤ bound * d → suc j * C ≡ s * c → suc j * D ≡ k * d → q * C ≤ bound * D
mul-le-of-absorb q w j s k c C d D bound floor ih e f =
    le_of_mul-le-mul_left {k = suc j}
    (omega (arith, mul-le-mul_right c floor, mul-le-mul_left k ih, ap (λ t. q * t) e, ap (λ t. bound * t) f))
    (zero-lt-suc j)

nested-mul-choose-le : (j bound k s : ℕ) → j ≤ s → nested_floors j bound k s * choose s j ≤ bound * choose k j
unfolding nested_floors
nested-mul-choose-le zero bound k s h = rw (choose-zero s, choose-zero k) (le_refl (bound * 1))
nested-mul-choose-le (suc j) bound k zero h = absurd (not-suc-le-zero h)
nested-mul-choose-le (suc j) bound zero (suc s) h = rw (mul-zero, zero-div, zero-mul) zero-le
nested-mul-choose-le (suc j) bound (suc k) (suc s) h =
    let w = nested_floors j bound k s in
    mul-le-of-absorb (w * suc k / suc s) w j (suc s) (suc k) (choose s j) (choose (suc s) (suc j)) (choose k j) (choose (suc k) (suc j)) bound
    (div-mul-le_self (w * suc k) (suc s))
    (nested-mul-choose-le j bound k s (le_of_suc-le-suc h))
    (choose-absorb s j)
    (choose-absorb k j)

pub nested-le-floor : (j bound k s : ℕ) → j ≤ s → nested_floors j bound k s ≤ bound * choose k j / choose s j
nested-le-floor j bound k s h = (le-div_iff_mul-le (choose-positive s j h)).1 (nested-mul-choose-le j bound k s h)
