-- The table of refusals read off once more, and cases of what a check says and leaves. Assumes nothing.
use Prim.Native.Nat.{ℕ}
use mathlib.Core.Path.{◌≡◌, refl}
use mathlib.Core.Bool.{false}
use mathlib.Core.List.{[], ◌∷◌}
use Rattle.refusal.specs.declared.Refusal.TheVariants.{Ended, Malformed, WrongKind, OutsideLimits, Trailing, BadRow, Crowded, WrongFigure, NoBlock, ShortWork, ShortOutput, BadOrder, Unjoinable, BadWish, OutOfService, BadCounts, TooManySets, BadRounds, EarlierEvent, BadEvent, SharedFeeder}
use Rattle.refusal.specs.Refusals.{result, refusal, refusal_outcome}
use Rattle.refusal.specs.Checked.{accepted, refused, ◌>>=◌, require, written, outcome}

-- "returned" and "place", row by row
pub table : (refusal_outcome (Ended 9) ≡ refusal 1 9)
    × (refusal_outcome (Malformed 9) ≡ refusal 2 9)
    × (refusal_outcome WrongKind ≡ refusal 3 0)
    × (refusal_outcome (OutsideLimits 9) ≡ refusal 4 9)
    × (refusal_outcome (Trailing 9) ≡ refusal 5 9)
    × (refusal_outcome (BadRow 9) ≡ refusal 6 9)
    × (refusal_outcome (Crowded 9) ≡ refusal 7 9)
    × (refusal_outcome (WrongFigure 9) ≡ refusal 8 9)
    × (refusal_outcome (BadOrder 2) ≡ refusal 12 2)
    × (refusal_outcome NoBlock ≡ refusal 9 0)
    × (refusal_outcome (ShortWork 9) ≡ refusal 10 9)
    × (refusal_outcome (ShortOutput 9) ≡ refusal 11 9)
    × (refusal_outcome Unjoinable ≡ refusal 13 0)
    × (refusal_outcome BadWish ≡ refusal 14 0)
    × (refusal_outcome (OutOfService 9) ≡ refusal 15 9)
    × (refusal_outcome BadCounts ≡ refusal 16 0)
    × (refusal_outcome TooManySets ≡ refusal 17 0)
    × (refusal_outcome BadRounds ≡ refusal 18 0)
    × (refusal_outcome (EarlierEvent 9) ≡ refusal 19 9)
    × (refusal_outcome (BadEvent 9) ≡ refusal 20 9)
    × (refusal_outcome (SharedFeeder 9) ≡ refusal 21 9)
table = (refl, refl, refl, refl, refl, refl, refl, refl, refl, refl, refl, refl, refl, refl, refl, refl, refl, refl, refl, refl, refl)

-- of two tests that fail the first gives the answer
pub first-refusal : (require false NoBlock >>= (λ u. require false WrongKind)) ≡ refused NoBlock
first-refusal = refl

pub outcomes : (outcome (λ (n : ℕ). n ∷ []) (accepted 5) ≡ result (5 ∷ []))
    × (outcome (λ (n : ℕ). n ∷ []) (refused (BadOrder 2)) ≡ refusal 12 2)
outcomes = (refl, refl)

-- three bytes lent, two written; and a refusal
pub slices : (written (accepted (1 ∷ 2 ∷ [])) (7 ∷ 8 ∷ 9 ∷ []) ≡ 1 ∷ 2 ∷ 9 ∷ []) × (written (refused NoBlock) (7 ∷ 8 ∷ 9 ∷ []) ≡ 7 ∷ 8 ∷ 9 ∷ [])
slices = (refl, refl)
