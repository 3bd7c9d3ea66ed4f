-- What the marks are for: rows whose bytes are each below the next one, or below their mark, are in order. Assumes nothing.
use Prim.Native.Nat.{ℕ, zero, suc, ◌+◌, ◌*◌, ◌-◌, ◌≤◌, ◌<◌, min, max}
use native.Mathlib.Numerals.{add-one}
use native.Mathlib.Omega.{arith}
use mathlib.Core.Path.{◌≡◌, sym, ◌∙◌, ap}
use mathlib.Core.Bool.{Bool, true, ◌&&◌, and_assoc, and-true}
use mathlib.Core.List.{List, ◌∷◌}
use lib.Dec.{T, ltb, leb→le}
use lib.ListN.{length, take, drop, get_or, drop_of_length-le}
use lib.Seq.{drop-cons, drop-drop}
use borrow.Author.Tests.{le-leb, lt-ltb}
use Rattle.lists.specs.Lists.{All, every}
use Rattle.lists.proofs.Arith.{run-end-le}
use Rattle.lists.proofs.Alls.{all_append}
use Rattle.lists.proofs.Tests.{and_left, and_right, and_both, T_true}
use Rattle.packing.specs.Rows.{ascending, is_in_order, rows_at}
use Rattle.packing.proofs.RowsAt.{rows_at-add}
use Rattle.rows_code.specs.Marks.{row_marks, marks_of, below_next}

length-row_marks : (r : ℕ) (after : List ℕ) → length (row_marks r after) ≡ r + length after
unfolding row_marks
length-row_marks zero after = omega arith
length-row_marks (suc zero) after = omega arith
length-row_marks (suc (suc r)) after = ap suc (length-row_marks (suc r) after) ∙ omega arith

pub length-marks_of : (r c : ℕ) → length (marks_of r c) ≡ c * r
unfolding marks_of
length-marks_of r zero = omega arith
length-marks_of r (suc c) = length-row_marks r (marks_of r c) ∙ omega (arith, length-marks_of r c)

-- k rows from row j on, with a row after them, end before the bytes do
pub marks-within : (r c k j at : ℕ) (s marks : List ℕ) → 0 < r → c * r ≤ length s → marks ≡ marks_of r k → at ≡ j * r
    → k < c - j → at + length marks < length s
marks-within r c k j at s marks some all marked here more =
    let before : j + k < c = omega arith in
    rw (marked, length-marks_of r k) (omega (arith, some, all, run-end-le r before))

-- the test goes on at the next byte
pub below-next : (top : ℕ) (s : List ℕ) (at : ℕ) (marks : List ℕ) (fine : Bool) (i : ℕ) → i < length marks
    → (fine && below_next top s (at + i) (drop i marks))
    ≡ ((fine && ltb (get_or s (at + i) 0) (min (max (get_or s (at + i + 1) 0) (get_or marks i 0)) top))
    && below_next top s (at + (i + 1)) (drop (i + 1) marks))
unfolding below_next
below-next top s at marks fine i h =
    let p : at + (i + 1) ≡ suc (at + i) = omega arith in
    let q : at + i + 1 ≡ suc (at + i) = omega arith in
    let test = ltb (get_or s (at + i) 0) (min (max (get_or s (suc (at + i)) 0) (get_or marks i 0)) top) in
    rw (p, q, add-one i, drop-cons marks i 0 h) (sym (and_assoc fine test (below_next top s (suc (at + i)) (drop (suc i) marks))))

-- and ends with the marks
pub below_end : (top : ℕ) (s : List ℕ) (p : ℕ) (marks : List ℕ) (fine : Bool) (i : ℕ) → length marks ≤ i
    → (fine && below_next top s p (drop i marks)) ≡ fine
unfolding below_next
below_end top s p marks fine i h = rw (drop_of_length-le marks h) (and-true fine)

-- what the test says of the byte at p, whose mark is m, and of the bytes after it
first_below : (top : ℕ) (s : List ℕ) (p m : ℕ) (marks : List ℕ) → T (below_next top s p (m ∷ marks))
    → (get_or s p 0 < min (max (get_or s (suc p) 0) m) top) × T (below_next top s (suc p) marks)
unfolding below_next
first_below top s p m marks t =
    let test = ltb (get_or s p 0) (min (max (get_or s (suc p) 0) m) top) in
    let others = below_next top s (suc p) marks in
    (leb→le (suc (get_or s p 0)) (min (max (get_or s (suc p) 0) m) top) (and_left test others t), and_right test others t)

module _ (n top : ℕ) (le : top ≤ n) (s after : List ℕ) where
  -- the rest of a row, r + 1 nodes from p on
  rest-in-order : (r p lo : ℕ) → p + suc r ≤ length s → lo ≤ get_or s p 0 → T (below_next top s p (row_marks (suc r) after))
      → T (ascending lo (take (suc r) (drop p s))) × T (every (λ v. ltb v n) (take (suc r) (drop p s)))
      × T (below_next top s (p + suc r) after)
  unfolding ascending every row_marks
  rest-in-order zero p lo h low t =
      let v = get_or s p 0 in
      let f = first_below top s p 255 after t in
      let split = drop-cons s p 0 (omega arith) in
      let next : p + 1 ≡ suc p = omega arith in
      rw (split, next, le-leb lo v low, lt-ltb v n (omega arith)) (tt, tt, f.1)
  rest-in-order (suc r) p lo h low t =
      let v = get_or s p 0 in
      let f = first_below top s p 0 (row_marks (suc r) after) t in
      let split = drop-cons s p 0 (omega arith) in
      let next : p + suc (suc r) ≡ suc p + suc r = omega arith in
      rw (split, next, le-leb lo v low, lt-ltb v n (omega arith))
      (rest-in-order r (suc p) (suc v) (omega arith) (omega arith) f.1)

  -- a row from byte p on
  row-in-order : (r p : ℕ) → p + r ≤ length s → T (below_next top s p (row_marks r after))
      → T (is_in_order n (take r (drop p s))) × T (below_next top s (p + r) after)
  unfolding ascending every row_marks
  row-in-order zero p h t = let e : p + 0 ≡ p = omega arith in rw e (tt, t)
  row-in-order (suc r) p h t =
      let g = rest-in-order r p 0 h (omega arith) t in
      let row = take (suc r) (drop p s) in
      (and_both (ascending 0 row) (every (λ v. ltb v n) row) g.0 g.1, g.2)

-- c rows from byte p on
rows-in-order : (n top : ℕ) → top ≤ n → (s : List ℕ) (r c p : ℕ) → p + c * r ≤ length s
    → T (below_next top s p (marks_of r c)) → All (λ row. T (is_in_order n row)) (rows_at r c (drop p s))
unfolding rows_at marks_of
rows-in-order n top le s r zero p h t = tt
rows-in-order n top le s r (suc c) p h t =
    let g = row-in-order n top le s (marks_of r c) r p (omega arith) t in
    (g.0, rw (drop-drop r p s) (rows-in-order n top le s r c (p + r) (omega arith) g.1))

-- c rows more after j rows that are in order
pub rows_more : (n top : ℕ) → top ≤ n → (s marks : List ℕ) (r c j : ℕ) → marks ≡ marks_of r c → j * r + c * r ≤ length s
    → below_next top s (j * r) marks ≡ true → All (λ row. T (is_in_order n row)) (rows_at r j s)
    → All (λ row. T (is_in_order n row)) (rows_at r (j + c) s)
rows_more n top le s marks r c j e h fine all =
    let more = rows-in-order n top le s r c (j * r) h (T_true (rw e at fine)) in
    rw (rows_at-add r j c s)
    (all_append (λ row. T (is_in_order n row)) (rows_at r j s) (rows_at r c (drop (j * r) s)) all more)
