-- Rows that are looked at many at once, byte by byte: each row's last byte is marked, since no order is asked between it and the
-- byte after it. Assumes nothing.
use Rattle.std.specs.Prelude.{ℕ, zero, suc, min, max, Bool, true, ◌&&◌, List, [], ◌∷◌, get_or, ltb}

-- the marks of a row's r bytes, 255 at the last one and 0 at the others, and then the marks `after` it
unfoldable pub row_marks : (r : ℕ) (after : List ℕ) → List ℕ
row_marks zero after = after
row_marks (suc zero) after = 255 ∷ after
row_marks (suc (suc r)) after = 0 ∷ row_marks (suc r) after

-- the marks of c rows of r bytes
unfoldable pub marks_of : (r c : ℕ) → List ℕ
marks_of r zero = []
marks_of r (suc c) = row_marks r (marks_of r c)

-- each byte from `at` on, one for each mark, is below `top`, and below the next byte unless its mark is above it
unfoldable pub below_next : (top : ℕ) (s : List ℕ) (at : ℕ) (marks : List ℕ) → Bool
below_next top s at [] = true
below_next top s at (mark ∷ marks) =
    ltb (get_or s at 0) (min (max (get_or s (suc at) 0) mark) top) && below_next top s (suc at) marks
