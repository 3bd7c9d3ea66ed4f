-- The first row that passes a test, row by row: what is left to look at from row j on, and the row numbers from there. Assumes
-- nothing.
use Prim.Native.Nat.{ℕ, suc, ◌+◌, ◌-◌, ◌≤◌, ◌<◌}
use native.Mathlib.Omega.{arith}
use mathlib.Core.Path.{◌≡◌, refl}
use mathlib.Core.Bool.{Bool, true, false}
use mathlib.Core.List.{List}
use mathlib.Core.Option.{Option, none, some}
use lib.ListN.{take, drop}
use lib.Seq.{drop-drop}
use Rattle.lists.specs.Lists.{later, first_where}
use Rattle.packing.specs.Rows.{rows_at}

-- j places further on
abbrev pub later_by : ℕ → Option ℕ → Option ℕ
later_by j none = none
later_by j (some i) = some (j + i)

later_by-zero : (o : Option ℕ) → later_by 0 o ≡ o
later_by-zero none = refl
later_by-zero (some i) = let e : 0 + i ≡ i = omega arith in rw e

later_by-later : (j : ℕ) (o : Option ℕ) → later_by j (later o) ≡ later_by (j + 1) o
later_by-later j none = refl
later_by-later j (some i) = let e : j + suc i ≡ j + 1 + i = omega arith in rw e

-- the first of the rows from row j on, which begin at byte `at`, by its number among all c rows
abbrev pub found_from : (f : List ℕ → Bool) (r c : ℕ) (s : List ℕ) (j at : ℕ) → Option ℕ
found_from f r c s j at = later_by j (first_where f (rows_at r (c - j) (drop at s)))

module _ (f : List ℕ → Bool) (r c : ℕ) (s : List ℕ) where
  pub found-from-start : found_from f r c s 0 0 ≡ first_where f (rows_at r c s)
  found-from-start = let e : c - 0 ≡ c = omega arith in rw e (later_by-zero (first_where f (rows_at r c s)))

  pub found-at-end : (j at : ℕ) → c ≤ j → found_from f r c s j at ≡ none
  unfolding first_where rows_at
  found-at-end j at h = let e : c - j ≡ 0 = omega arith in rw e

  module _ (j at : ℕ) (h : j < c) where
    left : c - j ≡ suc (c - (j + 1))
    left = omega arith

    row : at + r - at ≡ r
    row = omega arith

    pub found_here : f (take (at + r - at) (drop at s)) ≡ true → found_from f r c s j at ≡ some j
    unfolding first_where rows_at
    found_here e =
        let t : f (take r (drop at s)) ≡ true = rw row at e in
        let z : j + 0 ≡ j = omega arith in
        rw (left, t, z)

    pub found-further : f (take (at + r - at) (drop at s)) ≡ false → found_from f r c s j at ≡ found_from f r c s (j + 1) (at + r)
    unfolding first_where rows_at
    found-further e =
        let t : f (take r (drop at s)) ≡ false = rw row at e in
        rw (left, t, drop-drop r at s) (later_by-later j (first_where f (rows_at r (c - (j + 1)) (drop (at + r) s))))
