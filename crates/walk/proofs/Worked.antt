-- The walk over document 01's placement of nine records, and beside a refusal, by computation. Assumes nothing.
use Prim.Native.Nat.{ℕ}
use Rattle.std.specs.Prelude.{Err}
use mathlib.Core.Path.{◌≡◌, refl, ap}
use mathlib.Core.Bool.{false}
use mathlib.Core.List.{List, [], ◌∷◌, flatten}
use Rattle.refusal.specs.declared.Refusal.{Refusal}
use Rattle.refusal.specs.Checked.{accepted, map_accepted}
use Rattle.placement.specs.SevenCabinets.{placement_file, seven_placement}
use Rattle.placement.proofs.Worked.{placement-located}
use Rattle.walk.specs.declared.Cursor.{Cursor}
use Rattle.walk.specs.RowWalk.{first_row, open_walk, has_row, step_row, step_walk, opened_place}

-- the walk's place with so many rows left, nine rows of three bytes ending at byte 38
abbrev nine_at : (at left : ℕ) → Cursor
nine_at at left = record { at = at; r = 3; left = left }

-- it opens at byte 11; the first row, the last row, the end, and the end again, also for a walk past the last byte
-- and for one that somebody made up, whose next place would not fit 64 bits
pub walks : (open_walk (placement_file 3 5) ≡ accepted (nine_at 11 9))
    × (step_row (placement_file 3 5) (nine_at 11 9) ≡ 0 ∷ 1 ∷ 2 ∷ [])
    × (step_walk (placement_file 3 5) (nine_at 11 9) ≡ nine_at 14 8)
    × (step_row (placement_file 3 5) (nine_at 35 1) ≡ 2 ∷ 4 ∷ 5 ∷ [])
    × (step_walk (placement_file 3 5) (nine_at 35 1) ≡ nine_at 38 0)
    × (step_row (placement_file 3 5) (nine_at 38 0) ≡ [])
    × (step_walk (placement_file 3 5) (nine_at 38 0) ≡ nine_at 38 0)
    × (step_row (placement_file 3 5) (nine_at 36 1) ≡ [])
    × (step_walk (placement_file 3 5) (nine_at 36 1) ≡ nine_at 36 1)
    × (step_row (placement_file 3 5) (nine_at 18_446_744_073_709_551_615 9) ≡ [])
unfolding flatten placement_file seven_placement open_walk step_row step_walk
walks =
    (ap (map_accepted first_row) placement-located, refl, refl, refl, refl, refl, refl, refl, refl, refl)

-- beside a refusal no row is left, whatever the bytes
pub refused-ends : (bytes : List ℕ) (e : Refusal) → has_row bytes (opened_place (Err e)) ≡ false
refused-ends bytes e = refl
