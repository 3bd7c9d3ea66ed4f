-- The rows that bytes begin with: how many, where they stand, their lengths, and the bytes in a row. Assumes nothing.
use Prim.Native.Nat.{ℕ, zero, suc, ◌+◌, ◌*◌, ◌≤◌, ◌<◌}
use native.Mathlib.Nat.{not-suc-le-zero, le_of_suc-le-suc, zero-mul, zero-add, suc-add}
use native.Mathlib.Omega.{arith}
use mathlib.Core.Path.{◌≡◌, refl, ap, ◌∙◌}
use mathlib.Core.List.{List, [], ◌∷◌, ◌++◌, flatten, append_assoc}
use lib.ListN.{length, get_or, take, drop, length-drop}
use lib.Seq.{take-add, take_at, drop_at, drop-drop, length-take-le}
use Rattle.lists.specs.Lists.{All}
use Rattle.lists.proofs.Alls.{all_take, all_drop}
use Rattle.packing.specs.Rows.{rows_at}

pub length-rows_at : (r c : ℕ) (s : List ℕ) → length (rows_at r c s) ≡ c
unfolding rows_at
length-rows_at r zero s = refl
length-rows_at r (suc c) s = ap suc (length-rows_at r c (drop r s))

-- row i of the rows begins at byte i * r
pub get_d-rows_at : (r c : ℕ) (s : List ℕ) (i : ℕ) → i < c → get_or (rows_at r c s) i [] ≡ take r (drop (i * r) s)
unfolding rows_at
get_d-rows_at r zero s i h = absurd (not-suc-le-zero h)
get_d-rows_at r (suc c) s zero h = rw (zero-mul r)
get_d-rows_at r (suc c) s (suc i) h =
    let e : r + i * r ≡ suc i * r = omega arith in
    get_d-rows_at r c (drop r s) i (le_of_suc-le-suc h) ∙ rw (drop-drop (i * r) r s, e)

-- rows, and the rows after them
pub rows_at-add : (r c d : ℕ) (s : List ℕ) → rows_at r (c + d) s ≡ rows_at r c s ++ rows_at r d (drop (c * r) s)
unfolding rows_at
rows_at-add r zero d s = rw (zero-add d, zero-mul r)
rows_at-add r (suc c) d s =
    let e : suc c * r ≡ r + c * r = omega arith in
    rw (suc-add, rows_at-add r c d (drop r s), drop-drop (c * r) r s, e)

-- each row has r bytes where there are enough
pub rows_at-lengths : (r c : ℕ) (s : List ℕ) → c * r ≤ length s → All (λ row. length row ≡ r) (rows_at r c s)
unfolding rows_at
rows_at-lengths r zero s h = tt
rows_at-lengths r (suc c) s h =
    (length-take-le r s (omega arith), rows_at-lengths r c (drop r s) (rw length-drop (omega arith)))

-- what holds of every byte holds of every byte of the rows
pub all-rows_at : (P : ℕ → Type 0) (r c : ℕ) (s : List ℕ) → All P s → All (All P) (rows_at r c s)
unfolding rows_at
all-rows_at P r zero s h = tt
all-rows_at P r (suc c) s h = (all_take P r s h, all-rows_at P r c (drop r s) (all_drop P r s h))

-- the rows' bytes in a row
pub flatten-rows_at : (r c : ℕ) (s : List ℕ) → flatten (rows_at r c s) ≡ take (c * r) s
unfolding rows_at flatten
flatten-rows_at r zero s = rw (zero-mul r)
flatten-rows_at r (suc c) s =
    let e : suc c * r ≡ r + c * r = omega arith in
    rw (flatten-rows_at r c (drop r s), e, take-add r (c * r) s)

-- and rows of r bytes each are what their bytes in a row begin with
pub rows_at-flatten : (r : ℕ) (rows : List (List ℕ)) (t : List ℕ) → All (λ row. length row ≡ r) rows
    → rows_at r (length rows) (flatten rows ++ t) ≡ rows
unfolding rows_at flatten
rows_at-flatten r [] t h = refl
rows_at-flatten r (row ∷ rows) t h =
    rw (
      append_assoc row (flatten rows) t,
      take_at row (flatten rows ++ t) r h.0,
      drop_at row (flatten rows ++ t) r h.0,
      rows_at-flatten r rows t h.1,
    )
