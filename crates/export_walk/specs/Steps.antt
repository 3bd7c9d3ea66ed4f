-- A step of a row walk as numbers. Assumes nothing.
use Rattle.std.specs.Prelude.{ℕ, List, [], ◌∷◌, length}
use Rattle.walk.specs.RowWalk.{step_row, row_start, step_walk}
use Rattle.walk.specs.declared.Cursor.{Cursor}

-- where the row begins in the caller's bytes and how long it is, 0 and 0 at the end; then the walk moved past it
abbrev pub step_values : (bytes : List ℕ) → Cursor → List ℕ
step_values bytes walk =
    let next = step_walk bytes walk in
    row_start bytes walk ∷ length (step_row bytes walk) ∷ next.at ∷ next.r ∷ next.left ∷ []
