-- Document 01, "Row walk and programs": the row walk. Assumes nothing.
use Rattle.std.specs.Prelude.{ℕ, zero, suc, ◌+◌, ◌-◌, ◌≡◌, Bool, cond, ◌&&◌, List, [], ◌∷◌, length, take, drop, leb, ltb, Result, Ok, Err}
use Rattle.std.specs.Borrow.{Bor}
use Rattle.refusal.specs.Refusals.{Outcome, result, refusal_outcome}
use Rattle.refusal.specs.Checked.{Checked, accepted, refused, map_accepted}
use Rattle.layers.specs.Layers.{Located}
use Rattle.placement.specs.Placement.{Placement, read_placement}
use Rattle.walk.specs.declared.Cursor.{Cursor}
use Rattle.refusal.specs.declared.Refusal.{Refusal}

-- the place of the first row, which the check hands on, with all rows left
abbrev pub first_row : Located Placement → Cursor
first_row file = let p = file.content in record { at = file.first; r = p.r; left = p.b }

-- "A row walk opens on a placement (refusals as in checking)"
unfoldable pub open_walk : List ℕ → Checked Cursor
open_walk bytes = map_accepted first_row (read_placement bytes)

-- "After b steps it gives the end ..; so does a walk whose next r bytes would pass the last byte."
abbrev pub has_row : List ℕ → Cursor → Bool
has_row bytes walk = ltb 0 walk.left && leb (walk.at + walk.r) (length bytes)

-- "A step hands out the next row's r bytes as that part of the caller's bytes"; "the end, an empty part"
unfoldable pub step_row : List ℕ → Cursor → List ℕ
step_row bytes walk = cond (has_row bytes walk) (take walk.r (drop walk.at bytes)) []

-- where that part begins in the caller's bytes; the empty part begins where they do
unfoldable pub row_start : List ℕ → Cursor → ℕ
row_start bytes walk = cond (has_row bytes walk) walk.at 0

-- "as that part of the caller's bytes": a slice that points into the caller's own memory, so many bytes on, and not a copy
pub record RowPart (bytes : Bor (List ℕ)) (walk : Cursor) (row : Bor (List ℕ)) : Type 0 where
  pub content : row.now ≡ step_row bytes.now walk
  pub block : row.ref_ptr.0 ≡ bytes.ref_ptr.0
  pub offset : row.ref_ptr.1 ≡ bytes.ref_ptr.1 + row_start bytes.now walk

-- "with the walk moved past them"; at the end "with the walk unmoved"
unfoldable pub step_walk : List ℕ → Cursor → Cursor
step_walk bytes walk =
    cond (has_row bytes walk) (record { at = walk.at + walk.r; r = walk.r; left = walk.left - 1 }) walk

-- the rows that the first n steps hand out, and the walk after them
unfoldable pub walk_rows : (n : ℕ) → List ℕ → Cursor → List (List ℕ)
walk_rows zero bytes walk = []
walk_rows (suc n) bytes walk = step_row bytes walk ∷ walk_rows n bytes (step_walk bytes walk)

unfoldable pub walk_after : (n : ℕ) → List ℕ → Cursor → Cursor
walk_after zero bytes walk = walk
walk_after (suc n) bytes walk = walk_after n bytes (step_walk bytes walk)

abbrev pub walk_opened : Checked Cursor → Result Cursor Refusal
walk_opened (accepted walk) = Ok walk
walk_opened (refused e) = Err e

-- where the walk is then: beside a refusal it is at its end
abbrev pub opened_place : Result Cursor Refusal → Cursor
opened_place (Ok walk) = walk
opened_place (Err e) = record { at = 0; r = 0; left = 0 }

-- an opened walk's values are the first row's place, r and b
abbrev pub walk_outcome : Result Cursor Refusal → Outcome
walk_outcome (Ok walk) = result (walk.at ∷ walk.r ∷ walk.left ∷ [])
walk_outcome (Err e) = refusal_outcome e
