-- Worked cases of the numbers that a call tells. Assumes nothing.
use mathlib.Core.Path.{◌≡◌, refl}
use mathlib.Core.Bool.{true, false}
use mathlib.Core.List.{[], ◌∷◌}
use Rattle.refusal.specs.Refusals.{result, refusal_outcome}
use Rattle.refusal.specs.declared.Refusal.TheVariants.{Crowded}
use Rattle.exports.specs.Exports.{numbers, status, fits}

-- a plan of 39 bytes with F = 5; refusal 7 at place 27; an answer slice with room for one number of two
pub told : (numbers (result (39 ∷ 5 ∷ [])) ≡ 0 ∷ 39 ∷ 5 ∷ [])
    × (status (result (39 ∷ 5 ∷ [])) ≡ 0)
    × (numbers (refusal_outcome (Crowded 27)) ≡ 7 ∷ 27 ∷ [])
    × (status (refusal_outcome (Crowded 27)) ≡ 7)
    × (fits 2 (9 ∷ 9 ∷ []) ≡ true)
    × (fits 2 (9 ∷ []) ≡ false)
told = (refl, refl, refl, refl, refl, refl)
