-- The least and the last least place look at their function up to the top only. Assumes nothing.
use Prim.Native.Nat.{ℕ, zero, suc, ◌≤◌, min, zero-le}
use native.Mathlib.Nat.{le_refl}
use native.Mathlib.Omega.{arith}
use mathlib.Core.Path.{◌≡◌, refl, ap₂}
use Rattle.split.specs.Splits.{least, last_least}

pub least-congr : (f g : ℕ → ℕ) (top : ℕ) → ((c : ℕ) → c ≤ top → f c ≡ g c) → least f top ≡ least g top
unfolding least
least-congr f g zero h = h zero zero-le
least-congr f g (suc top) h = ap₂ min (h (suc top) (le_refl (suc top))) (least-congr f g top (λ c l. h c (omega arith)))

pub last_least-congr : (f g : ℕ → ℕ) (top : ℕ) → ((c : ℕ) → c ≤ top → f c ≡ g c) → last_least f top ≡ last_least g top
unfolding last_least
last_least-congr f g zero h = refl
last_least-congr f g (suc top) h =
    rw (h (suc top) (le_refl (suc top)), least-congr f g top (λ c l. h c (omega arith)), last_least-congr f g top (λ c l. h c (omega arith)))
