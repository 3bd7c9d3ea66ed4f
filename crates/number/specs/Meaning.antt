-- What the refusals of a number mean, in the words of document 01's table, apart from how it is read. Assumes nothing.
use Rattle.std.specs.Prelude.{ℕ, ◌+◌, ◌≤◌, ◌<◌, ◌≡◌, ◌⊎◌, List, length, get_or}
use Rattle.refusal.specs.declared.Refusal.{Refusal}
use Rattle.refusal.specs.declared.Refusal.TheVariants.{Ended, Malformed, WrongKind, OutsideLimits, Trailing, BadRow, Crowded, WrongFigure, NoBlock, ShortWork, ShortOutput, BadOrder, Unjoinable, BadWish, OutOfService, BadCounts, TooManySets, BadRounds, EarlierEvent, BadEvent, SharedFeeder}
use Rattle.refusal.specs.Checked.{accepted}
use Rattle.number.specs.Numbers.{read_number}
use Rattle.number.specs.declared.Reading.{Reading}

-- "a byte's top bit (128) is set where another group follows": so in each of the first g bytes from `at` on
abbrev pub Follows : List ℕ → (at g : ℕ) → Type 0
Follows s at g = (i : ℕ) → i < g → (at + i < length s) × (128 ≤ get_or s (at + i) 0)

-- the number that starts at `at` is refused so
abbrev pub NumberRefused : List ℕ → (at : ℕ) → Refusal → Type 0
-- "the input ends inside a number": "input length"
NumberRefused s at (Ended p) = ((g : ℕ) × (g < 4) × Follows s at g × (length s ≤ at + g)) × (p ≡ length s)
-- request (b): "four bytes that all have the top bit set"; its place is "the number's start"
NumberRefused s at (Malformed p) = Follows s at 4 × (p ≡ at)
NumberRefused s at WrongKind = ⊥
NumberRefused s at (OutsideLimits p) = ⊥
NumberRefused s at (Trailing p) = ⊥
NumberRefused s at (BadRow p) = ⊥
NumberRefused s at (Crowded p) = ⊥
NumberRefused s at (WrongFigure p) = ⊥
NumberRefused s at NoBlock = ⊥
NumberRefused s at (ShortWork p) = ⊥
NumberRefused s at (ShortOutput p) = ⊥
NumberRefused s at (BadOrder p) = ⊥
NumberRefused s at Unjoinable = ⊥
NumberRefused s at BadWish = ⊥
NumberRefused s at (OutOfService p) = ⊥
NumberRefused s at BadCounts = ⊥
NumberRefused s at TooManySets = ⊥
NumberRefused s at BadRounds = ⊥
NumberRefused s at (EarlierEvent p) = ⊥
NumberRefused s at (BadEvent p) = ⊥
NumberRefused s at (SharedFeeder p) = ⊥

-- A number of a head is checked "for 1, 2, then .. 4": "a number outside its limits", at "the number's start"
abbrev pub WithinRefused : (lo hi : ℕ) → List ℕ → (at : ℕ) → Refusal → Type 0
WithinRefused lo hi s at e =
    NumberRefused s at e
    ⊎ ((e ≡ OutsideLimits at)
    × ((n : Reading) × (read_number s at ≡ accepted n) × ((n.value < lo) ⊎ (hi < n.value))))
