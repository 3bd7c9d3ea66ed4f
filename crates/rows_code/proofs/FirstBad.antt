-- The first bad row, row by row: what is left to look at from row j on, and the row numbers from there. Assumes nothing.
use Prim.Native.Nat.{ℕ, zero, suc, ◌+◌, ◌*◌, ◌-◌, ◌≤◌, ◌<◌}
use native.Mathlib.Nat.{zero-mul}
use native.Mathlib.Omega.{arith}
use mathlib.Core.Path.{◌≡◌, refl, sym, ap, ◌∙◌}
use mathlib.Core.Bool.{true, false}
use mathlib.Core.List.{List}
use mathlib.Core.Option.{Option, none, some}
use lib.Dec.{T}
use lib.ListN.{take, drop}
use lib.Seq.{drop-drop}
use Rattle.lists.specs.Lists.{All, later, first_where}
use Rattle.lists.proofs.Tests.{true-T}
use Rattle.packing.specs.Rows.{is_in_order, rows_at, first_bad}

-- j places further on
abbrev pub later_by : ℕ → Option ℕ → Option ℕ
later_by j none = none
later_by j (some i) = some (j + i)

pub later_by-zero : (o : Option ℕ) → later_by 0 o ≡ o
later_by-zero none = refl
later_by-zero (some i) = let e : 0 + i ≡ i = omega arith in rw e

pub later_by-later : (j : ℕ) (o : Option ℕ) → later_by j (later o) ≡ later_by (j + 1) o
later_by-later j none = refl
later_by-later j (some i) = let e : j + suc i ≡ j + 1 + i = omega arith in rw e

later-later_by : (j : ℕ) (o : Option ℕ) → later (later_by j o) ≡ later_by (suc j) o
later-later_by j none = refl
later-later_by j (some i) = let e : suc (j + i) ≡ suc j + i = omega arith in rw e

-- the first bad one of the rows from row j on, by its number among all c rows
abbrev pub bad_from : (n r c : ℕ) (s : List ℕ) (j : ℕ) → Option ℕ
bad_from n r c s j = later_by j (first_bad n (rows_at r (c - j) (drop (j * r) s)))

-- past rows that are in order
pub bad-past : (n r j c : ℕ) (s : List ℕ) → j ≤ c → All (λ row. T (is_in_order n row)) (rows_at r j s)
    → first_bad n (rows_at r c s) ≡ bad_from n r c s j
unfolding first_where rows_at first_bad
bad-past n r zero c s h all =
    let e : c - 0 ≡ c = omega arith in
    rw (e, zero-mul r) (sym (later_by-zero (first_bad n (rows_at r c s))))
bad-past n r (suc j) zero s h all = absurd (omega arith)
bad-past n r (suc j) (suc c) s h all =
    let e : suc c - suc j ≡ c - j = omega arith in
    let d : suc j * r ≡ r + j * r = omega arith in
    let left = first_bad n (rows_at r (c - j) (drop (r + j * r) s)) in
    let rest : first_bad n (rows_at r c (drop r s)) ≡ later_by j left =
    rw (drop-drop (j * r) r s) at (bad-past n r j c (drop r s) (omega arith) all.1)
    in
    rw (e, d, true-T (is_in_order n (take r s)) all.0) (ap later rest ∙ later-later_by j left)

pub bad-of-end : (n r c : ℕ) (s : List ℕ) (j : ℕ) → c ≤ j → bad_from n r c s j ≡ none
unfolding first_where rows_at first_bad
bad-of-end n r c s j h = let e : c - j ≡ 0 = omega arith in rw e

module _ (n r c : ℕ) (s : List ℕ) (j : ℕ) (h : j < c) where
  left : c - j ≡ suc (c - (j + 1))
  left = omega arith

  row : j * r + r - j * r ≡ r
  row = omega arith

  pub bad-of-here : is_in_order n (take (j * r + r - j * r) (drop (j * r) s)) ≡ false → bad_from n r c s j ≡ some j
  unfolding first_where rows_at first_bad
  bad-of-here e =
      let f : is_in_order n (take r (drop (j * r) s)) ≡ false = rw row at e in
      let z : j + 0 ≡ j = omega arith in
      rw (left, f, z)

  pub bad-of-next : is_in_order n (take (j * r + r - j * r) (drop (j * r) s)) ≡ true → bad_from n r c s j ≡ bad_from n r c s (j + 1)
  unfolding first_where rows_at first_bad
  bad-of-next e =
      let f : is_in_order n (take r (drop (j * r) s)) ≡ true = rw row at e in
      let next : (j + 1) * r ≡ j * r + r = omega arith in
      rw (left, f, next, drop-drop r (j * r) s) (later_by-later j (first_bad n (rows_at r (c - (j + 1)) (drop (j * r + r) s))))
