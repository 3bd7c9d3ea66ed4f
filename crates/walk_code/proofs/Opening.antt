-- The checker's answer is the answer of opening a walk. Assumes nothing.
use Prim.Native.Nat.{ℕ}
use Rattle.std.specs.Prelude.{Result, Ok, Err}
use mathlib.Core.Path.{◌≡◌, refl, sym, ◌∙◌, ap}
use mathlib.Core.List.{List}
use Rattle.refusal.specs.Checked.{Checked, accepted, refused, map_accepted}
use Rattle.layers.specs.Layers.{Located}
use Rattle.placement.specs.Placement.{Placement, read_placement}
use Rattle.placement.specs.Answers.{placement_checked}
use Rattle.placement.specs.declared.PlacementCheck.{PlacementCheck}
use Rattle.placement.specs.declared.PlacementHead.{PlacementHead}
use Rattle.walk.specs.RowWalk.{first_row, open_walk, walk_opened}
use Rattle.refusal.specs.declared.Refusal.{Refusal}
use Rattle.walk.specs.declared.Cursor.{Cursor}

-- the checker's answer as that of opening: an accepted placement's first row, or the checker's refusal
abbrev opened_of : Result PlacementHead Refusal → Result Cursor Refusal
opened_of (Ok head) = Ok (record { at = head.first; r = head.r; left = head.b })
opened_of (Err e) = Err e

answer-opened : (checked : Checked (Located Placement))
    → opened_of (placement_checked checked).answer ≡ walk_opened (map_accepted first_row checked)
answer-opened (accepted file) = refl
answer-opened (refused e) = refl

-- "(refusals as in checking)"
pub opened_of-checked : (bytes : List ℕ) (check : PlacementCheck) {answer : Result PlacementHead Refusal}
    → check ≡ placement_checked (read_placement bytes) → check.answer ≡ answer → opened_of answer ≡ walk_opened (open_walk bytes)
unfolding open_walk
opened_of-checked bytes check is answers =
    ap opened_of (sym answers ∙ ap (λ (c : PlacementCheck). c.answer) is) ∙ answer-opened (read_placement bytes)
