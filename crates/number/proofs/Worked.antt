-- Document 01's starred cases of numbers, by computation. Assumes nothing.
use mathlib.Core.Path.{◌≡◌, refl}
use mathlib.Core.List.{[], ◌∷◌}
use Rattle.refusal.specs.Checked.{accepted}
use Rattle.number.specs.Numbers.{groups, number_bytes, read_groups, read_number}

-- "0, 127, 128, 300 are bytes 0; 127; 128 1; 172 2." Request (b): "The starred bytes 128 0 now read as 0, length 2."
pub numbers : (number_bytes 0 ≡ 0 ∷ [])
    × (number_bytes 127 ≡ 127 ∷ [])
    × (number_bytes 128 ≡ 128 ∷ 1 ∷ [])
    × (number_bytes 300 ≡ 172 ∷ 2 ∷ [])
    × (read_number (128 ∷ 0 ∷ []) 0 ≡ accepted (record { value = 0; next = 2 }))
unfolding number_bytes groups read_number read_groups
numbers = (refl, refl, refl, refl, refl)
