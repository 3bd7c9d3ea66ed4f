-- Ascending rows, node by node; the bytes of the rows alone, and what the code finds in them.
-- Assumes nothing.
use Prim.Native.Nat.{ℕ, zero, suc, ◌+◌, ◌-◌, ◌*◌, ◌/◌, ◌≤◌, ◌<◌}
use mathlib.Core.Path.{◌≡◌, sym, ap, ap₂, subst, ◌∙◌}
use mathlib.Core.List.{List, [], ◌∷◌, flatten, append-nil}
use native.Mathlib.Nat.{div-mul-le_self, div-lt_iff_lt-mul, sub-zero, not-suc-le-zero, le_of_suc-le-suc}
use native.Mathlib.Omega.{arith}
use lib.ListN.{length, get_or, take, drop, length-drop}
use lib.Seq.{get_or-take, get_or-drop, length-take-le}
use lib.Dec.{T}
use Rattle.lists.specs.Lists.{All}
use Rattle.lists.proofs.Alls.{all_get_d}
use Rattle.packing.specs.Rows.{ascending, rows_at, first_crowded}
use Rattle.packing.proofs.RowsAt.{length-rows_at, get_d-rows_at, rows_at-lengths, flatten-rows_at, rows_at-flatten}
use Rattle.packing.proofs.Members.{ascending-head, ascending-tail}
use Rattle.crowding.specs.Tails.{lowest_crowded, row_tails, row_number}
use Rattle.crowding.proofs.Crowded.{good-rows}
use Rattle.crowding.proofs.TailsFirst.{lowest-first}
use Rattle.crowding.specs.Chains.{Ascends}

from_low : (lo : ℕ) (row : List ℕ) → T (ascending lo row) → (k : ℕ) → k < length row → lo ≤ get_or row k 0
from_low lo [] a k h = absurd (not-suc-le-zero h)
from_low lo (v ∷ row) a zero h = ascending-head lo v row a
from_low lo (v ∷ row) a (suc k) h =
    omega (arith, ascending-head lo v row a, from_low (suc v) row (ascending-tail lo v row a) k (le_of_suc-le-suc h))

rises : (lo : ℕ) (row : List ℕ) → T (ascending lo row) → (j k : ℕ) → j < k → k < length row → get_or row j 0 < get_or row k 0
rises lo [] a j k lt h = absurd (not-suc-le-zero h)
rises lo (v ∷ row) a j zero lt h = absurd (not-suc-le-zero lt)
rises lo (v ∷ row) a zero (suc k) lt h = from_low (suc v) row (ascending-tail lo v row a) k (le_of_suc-le-suc h)
rises lo (v ∷ row) a (suc j) (suc k) lt h =
    rises (suc v) row (ascending-tail lo v row a) j k (le_of_suc-le-suc lt) (le_of_suc-le-suc h)

-- row i's node k is the byte at i * r + k
node_at : (r : ℕ) (rows : List ℕ) (i p : ℕ) → i * r ≤ p → p < (i + 1) * r → get_or (take r (drop (i * r) rows)) (p - i * r) 0 ≡ get_or rows p 0
node_at r rows i p le lt =
    let e : i * r + (p - i * r) ≡ p = omega arith in
    get_or-take r (drop (i * r) rows) (p - i * r) 0 (omega arith) ∙ get_or-drop (i * r) rows (p - i * r) 0 ∙ ap (λ (q : ℕ). get_or rows q 0) e

ascends-rows : (r c : ℕ) (rows : List ℕ) → 0 < r → length rows ≡ c * r → All (λ row. T (ascending 0 row)) (rows_at r c rows)
    → Ascends r rows
ascends-rows r c rows pos e order p q pq qe whole =
    let start = div-mul-le_self p r in
    let few : p / r < c = (div-lt_iff_lt-mul {k = r} {x = p} {y = c} pos).1 (omega arith) in
    let row = take r (drop (p / r * r) rows) in
    let up : T (ascending 0 row) =
    subst (λ row. T (ascending 0 row)) (get_d-rows_at r c rows (p / r) few)
    (all_get_d (λ row. T (ascending 0 row)) (rows_at r c rows) (p / r) [] order (omega (arith, length-rows_at r c rows)))
    in
    let long : length row ≡ r = length-take-le r (drop (p / r * r) rows) (omega (arith, length-drop (p / r * r) rows)) in
    let less = rises 0 row up (p - p / r * r) (q - p / r * r) (omega arith) (omega arith) in
    rw (node_at r rows (p / r) p start (omega arith), node_at r rows (p / r) q (omega arith) qe) at less

-- the rows' bytes, as the code takes them
module _ (r c : ℕ) (rows : List ℕ) (h : c * r ≤ length rows) where
  pub length_taken : length (take (c * r - 0) (drop 0 rows)) ≡ c * r
  length_taken = rw (sub-zero (c * r)) (length-take-le (c * r) rows h)

  pub rows_taken : rows_at r c (take (c * r - 0) (drop 0 rows)) ≡ rows_at r c rows
  rows_taken =
      ap (λ (n : ℕ). rows_at r c (take n rows)) (sub-zero (c * r))
      ∙ ap₂ (rows_at r) (sym (length-rows_at r c rows)) (sym (append-nil (flatten (rows_at r c rows)) ∙ flatten-rows_at r c rows))
      ∙ rows_at-flatten r (rows_at r c rows) [] (rows_at-lengths r c rows h)

  module _ (order : All (λ row. T (ascending 0 row)) (rows_at r c rows)) where
    pub taken-ascends : 0 < r → Ascends r (take (c * r - 0) (drop 0 rows))
    taken-ascends pos = ascends-rows r c (take (c * r - 0) (drop 0 rows)) pos length_taken (rw rows_taken order)

    -- the number that the code finds
    pub taken-first : (x bound n : ℕ) → c ≤ 65536 → ((i : ℕ) → get_or rows i 0 < 256)
        → n ≡ lowest_crowded (suc x) bound (row_tails 0 (rows_at r c (take (c * r - 0) (drop 0 rows)))) 65536
        → n ≡ row_number (first_crowded x bound (rows_at r c rows))
    taken-first x bound n few bytes e =
        e
        ∙ ap (λ (rs : List (List ℕ)). lowest_crowded (suc x) bound (row_tails 0 rs) 65536) rows_taken
        ∙ lowest-first x bound (rows_at r c rows) (good-rows r c rows bytes order) (omega (arith, length-rows_at r c rows))
