-- Rows of binomials as the code carries them. Assumes nothing.
use Prim.Native.Nat.{ℕ, zero, suc, ◌+◌, ◌*◌, ◌/◌, ◌^◌, ◌≤◌, ◌<◌}
use native.Mathlib.Omega.{arith}
use native.Mathlib.Numerals.{add-one}
use mathlib.Core.Path.{◌≡◌, refl, ◌∙◌, ap}
use mathlib.Core.List.{List, [], ◌∷◌}
use lib.ListN.{get_or}
use Rattle.binomial.specs.Choose.{choose}
use Rattle.binomial.proofs.Laws.{choose-lt}
use Rattle.placement.specs.declared.Rule.TheVariants.{OneFloor}
use Rattle.placement.specs.Figure.{lost_by}
use Rattle.curve.specs.Binomials.{binomial_row}

entry : (m j : ℕ) → j ≤ 5 → get_or (binomial_row m) j 0 ≡ choose m j
entry m zero h = refl
entry m (suc zero) h = refl
entry m (suc (suc zero)) h = refl
entry m (suc (suc (suc zero))) h = refl
entry m (suc (suc (suc (suc zero)))) h = refl
entry m (suc (suc (suc (suc (suc zero))))) h = refl
entry m (suc (suc (suc (suc (suc (suc j)))))) h = absurd (omega arith)

-- "C(0,j) = 0 for j above 0"
pub row_zero : 1 ∷ 0 ∷ 0 ∷ 0 ∷ 0 ∷ 0 ∷ [] ≡ binomial_row 0
unfolding choose
row_zero = refl

module _ (m : ℕ) {row : List ℕ} (is : row ≡ binomial_row m) where
  -- entry j is C(m,j)
  pub row-entry : (j : ℕ) → j ≤ 5 → get_or row j 0 ≡ choose m j
  row-entry j h = ap (λ l. get_or l j 0) is ∙ entry m j h

  -- and small
  pub row_lt : (j : ℕ) → m ≤ 255 → j ≤ 5 → get_or row j 0 < 2 ^ 34
  row_lt j small h = rw (row-entry j h) (choose-lt m j small h)

  -- "C(m+1,j+1) = C(m,j) + C(m,j+1)"
  pub row_next : 1 ∷ (get_or row 0 0 + get_or row 1 0) ∷ (get_or row 1 0 + get_or row 2 0) ∷ (get_or row 2 0 + get_or row 3 0)
      ∷ (get_or row 3 0 + get_or row 4 0)
      ∷ (get_or row 4 0 + get_or row 5 0)
      ∷ []
      ≡ binomial_row (suc m)
  unfolding choose
  row_next = rw is refl

-- the one floor from two entries
pub one-floor : (s k x lambda : ℕ) {above below : ℕ} → above ≡ choose k (x + 1) → below ≡ choose s (x + 1)
    → lambda * above / below ≡ lost_by OneFloor s k x lambda
unfolding lost_by
one-floor s k x lambda ea eb = rw (ea, eb, add-one x)
