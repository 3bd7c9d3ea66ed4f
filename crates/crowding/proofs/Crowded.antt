-- The first crowded row as the code answers it; layers that need no test; rows of bytes. Assumes nothing.
use Prim.Native.Nat.{ℕ, suc, ◌≤◌, ◌<◌}
use Rattle.std.specs.Prelude.{Some, None}
use mathlib.Core.Path.{◌≡◌, refl}
use mathlib.Core.Bool.{false}
use mathlib.Core.List.{List, [], ◌∷◌, map}
use mathlib.Core.Option.{Option, none, some}
use native.Mathlib.Omega.{arith}
use lib.ListN.{length, get_or}
use lib.Dec.{T, ltb}
use borrow.Author.Tests.{le-ltb, lt-ltb}
use Rattle.lists.specs.Lists.{All, count, every, up_to}
use Rattle.lists.proofs.Tests.{T_true, and_left, and_both}
use Rattle.lists.proofs.Alls.{all_of, all_append, all-imp, all_map, all_both, all-every, get_d-all}
use Rattle.lists.proofs.Counts.{count-le-length, count-mono}
use Rattle.lists.proofs.Largest.{largest-le}
use Rattle.lists.proofs.Finds.{first_where-none, some-first_where, any_none}
use Rattle.lists.proofs.UpTo.{get_d-map-up_to}
use Rattle.packing.specs.Rows.{ascending, is_in_order, rows_at, member, together, holds, subsets, crowded, first_crowded}
use Rattle.packing.specs.Load.{load, most}
use Rattle.packing.specs.Answers.{row_found}
use Rattle.packing.proofs.RowsAt.{all-rows_at}
use Rattle.crowding.specs.Tails.{row_number}
use Rattle.crowding.proofs.TailSets.{GoodFrom}

-- a set with a node stands together in no more rows than hold the node
few-sets : (x bound : ℕ) (rows : List (List ℕ)) (row : List ℕ) → All (λ v. count (λ row. member v row) rows ≤ bound) row
    → All (λ s. ltb bound (together rows s) ≡ false) (subsets (suc x) row)
unfolding every together holds subsets
few-sets x bound rows [] few = tt
few-sets x bound rows (v ∷ row) few =
    all_append (λ s. ltb bound (together rows s) ≡ false) (map (λ set. v ∷ set) (subsets x row)) (subsets (suc x) row)
    (all_map (λ s. ltb bound (together rows s) ≡ false) (λ set. v ∷ set) (subsets x row)
    (all_of (λ set. ltb bound (together rows (v ∷ set)) ≡ false)
    (λ set. le-ltb bound (together rows (v ∷ set))
    (omega (
      arith,
      few.0,
      count-mono (λ r. holds r (v ∷ set)) (λ r. member v r) (λ r. and_left (member v r) (holds r set)) rows,
    ))) (subsets x row)))
    (few-sets x bound rows row few.1)

-- no row is crowded where no node of the rows stands in more of them than the bound
none-of-loads : (x bound : ℕ) (rows : List (List ℕ)) → All (All (λ v. count (λ row. member v row) rows ≤ bound)) rows
    → first_crowded x bound rows ≡ none
unfolding first_crowded crowded
none-of-loads x bound rows few =
    first_where-none (crowded x bound rows) rows
    (all-imp (All (λ v. count (λ row. member v row) rows ≤ bound)) (λ row. crowded x bound rows row ≡ false)
    (λ row h. any_none (λ s. ltb bound (together rows s)) (subsets (suc x) row) (few-sets x bound rows row h)) rows few)

-- nor where there are no more rows
pub first-none-of-few : (x bound : ℕ) (rows : List (List ℕ)) → length rows ≤ bound → first_crowded x bound rows ≡ none
first-none-of-few x bound rows h =
    none-of-loads x bound rows
    (all_of (All (λ v. count (λ row. member v row) rows ≤ bound))
    (all_of (λ v. count (λ row. member v row) rows ≤ bound)
    (λ v. omega (arith, count-le-length (λ row. member v row) rows))) rows)

-- a row's number as the answer
pub found-row : (n : ℕ) (o : Option ℕ) → n ≡ row_number o → n < 65536 → Some (record { 0 = n }) ≡ row_found o
found-row n none e h = absurd (omega arith)
found-row n (some j) e h = rw e

pub found_none : (n : ℕ) (o : Option ℕ) → n ≡ row_number o → 65536 ≤ n → ((j : ℕ) → o ≡ some j → j < 65536) → None ≡ row_found o
found_none n none e h below = refl
found_none n (some j) e h below = absurd (omega (arith, below j refl))

pub first-crowded-below : (x bound : ℕ) (rows : List (List ℕ)) (j : ℕ) → first_crowded x bound rows ≡ some j → j < length rows
unfolding first_crowded
first-crowded-below x bound rows j e = (some-first_where (crowded x bound rows) rows [] j e).within

-- the rows of bytes that are ascending are good
pub good-rows : (r c : ℕ) (l : List ℕ) → ((i : ℕ) → get_or l i 0 < 256) → All (λ row. T (ascending 0 row)) (rows_at r c l)
    → All (GoodFrom 0) (rows_at r c l)
good-rows r c l h a =
    all_both (λ row. T (ascending 0 row)) (All (λ v. v < 256)) (rows_at r c l) a
    (all-rows_at (λ v. v < 256) r c l (get_d-all (λ v. v < 256) 0 l (λ i lt. h i)))

-- rows of bytes: all are in order, and the largest count of the 256 nodes stands for that of each
module _ (r c : ℕ) (l : List ℕ) (bytes : (i : ℕ) → get_or l i 0 < 256) where
  pub rows-in-order : All (λ row. T (ascending 0 row)) (rows_at r c l) → All (λ row. T (is_in_order 256 row)) (rows_at r c l)
  rows-in-order order =
      all-imp (GoodFrom 0) (λ row. T (is_in_order 256 row))
      (λ row good. and_both (ascending 0 row) (every (λ v. ltb v 256) row) good.0
      (all-every (λ v. ltb v 256) row
      (all-imp (λ v. v < 256) (λ v. T (ltb v 256)) (λ v lt. T_true (lt-ltb v 256 lt)) row good.1)))
      (rows_at r c l) (good-rows r c l bytes order)

  pub first-none-of-loads : (x bound : ℕ) → most 256 (rows_at r c l) ≤ bound → first_crowded x bound (rows_at r c l) ≡ none
  first-none-of-loads x bound fits =
      none-of-loads x bound (rows_at r c l)
      (all-imp (All (λ v. v < 256)) (All (λ v. load (rows_at r c l) v ≤ bound))
      (all-imp (λ v. v < 256) (λ v. load (rows_at r c l) v ≤ bound) few)
      (rows_at r c l) (all-rows_at (λ v. v < 256) r c l (get_d-all (λ v. v < 256) 0 l (λ i lt. bytes i))))
    where
      few : (v : ℕ) → v < 256 → load (rows_at r c l) v ≤ bound
      few v lt =
          omega (arith, fits, largest-le (map (load (rows_at r c l)) (up_to 256)) v, get_d-map-up_to (load (rows_at r c l)) 256 v 0 lt)
