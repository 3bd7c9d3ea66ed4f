-- What the counts of nodes and the search give is the largest number of rows that hold one set. Assumes nothing.
use Prim.Native.Nat.{ℕ, suc, ◌*◌, ◌-◌, ◌≤◌, ◌<◌}
use native.Mathlib.Omega.{arith}
use native.Mathlib.Nat.{le_refl, le_antisymm}
use mathlib.Core.Path.{◌≡◌, refl, ap, ◌∙◌}
use mathlib.Core.Bool.{Bool, true, false}
use mathlib.Core.List.{List, [], ◌∷◌}
use lib.ListN.{length, get_or, take, drop, get_or-eq_default}
use lib.Dec.{T, ltb}
use borrow.Author.Tests.{le-ltb, ltb-true, ltb-false}
use Rattle.lists.specs.Lists.{All, every}
use Rattle.lists.proofs.Tests.{and_both}
use Rattle.lists.proofs.Alls.{all-imp, all_both}
use Rattle.lists.proofs.Counts.{count-mono}
use Rattle.lists.proofs.Finds.{first_where-none, any_none}
use Rattle.lists.proofs.Largest.{largest-most}
use Rattle.lists.proofs.UpTo.{length-map-up_to, get_d-map-up_to}
use Rattle.packing.specs.Rows.{Packing, SetIn, ascending, rows_at, member, distinct, holds, together, subsets, crowded, first_crowded}
use Rattle.packing.specs.Load.{load, loads, most}
use Rattle.packing.proofs.Members.{ascending-distinct}
use Rattle.packing.proofs.Sets.{subsets-in}
use Rattle.packing.proofs.Test.{uncrowded-packing}
use Rattle.crowding.specs.Tails.{row_tails}
use Rattle.crowding.proofs.Crowded.{good-rows, first-none-of-loads}
use Rattle.crowding.proofs.Order.{rows_taken}
use Rattle.crowding.proofs.Sets.{subsets-ascending, subsets-all}
use Rattle.crowding.proofs.TailSets.{GoodFrom}
use Rattle.crowding_most.specs.Most.{most_tails}
use Rattle.crowding_most.proofs.Held.{together-le-most, most-le-together}
use Rattle.certify.specs.Certify.{most_together}
use Rattle.certify.proofs.Most.{uncrowded-iff-most}

-- any x+1 nodes stand together in at most so many rows
any-set-le : (x : ℕ) (rows : List (List ℕ)) → Packing x (most_together x rows) rows
any-set-le x rows = uncrowded-packing x (most_together x rows) rows ((uncrowded-iff-most x rows (most_together x rows)).1 (le_refl _))

module _ (x : ℕ) (rows : List (List ℕ)) (good : All (GoodFrom 0) rows) where
  abbrev found : ℕ
  found = most_tails (suc x) (row_tails 0 rows) 0

  -- each set of x+1 nodes that a row lists stands in at most the number that is found
  row-quiet : (row : List ℕ) → GoodFrom 0 row → crowded x found rows row ≡ false
  unfolding crowded
  row-quiet row g =
      any_none (λ s. ltb found (together rows s)) (subsets (suc x) row)
      (all-imp (λ s. SetIn (suc x) row s × GoodFrom 0 s) (λ s. ltb found (together rows s) ≡ false)
      (λ s h. le-ltb found (together rows s) (together-le-most (suc x) rows good s h.0.size h.1)) (subsets (suc x) row)
      (all_both (SetIn (suc x) row) (GoodFrom 0) (subsets (suc x) row) (subsets-in (suc x) row (ascending-distinct 0 row g.0))
      (all_both (λ s. T (ascending 0 s)) (All (λ v. v < 256)) (subsets (suc x) row) (subsets-ascending 0 (suc x) row g.0)
      (subsets-all (λ v. v < 256) (suc x) row g.1))))

  pub found-most : found ≡ most_together x rows
  unfolding first_crowded
  found-most =
      le_antisymm
      (most-le-together (suc x) rows good (most_together x rows)
      (λ s size rises. any-set-le x rows s size (ascending-distinct 0 s rises)))
      ((uncrowded-iff-most x rows found).0
      (first_where-none (crowded x found rows) rows (all-imp (GoodFrom 0) (λ row. crowded x found rows row ≡ false) row-quiet rows good)))

-- a node alone
load-le : (rows : List (List ℕ)) (v : ℕ) → load rows v ≤ most_together 0 rows
unfolding distinct member holds every together
load-le rows v =
    let one = any-set-le 0 rows (v ∷ []) refl tt in
    omega (
      arith,
      one,
      count-mono (λ row. member v row) (λ row. holds row (v ∷ [])) (λ row t. and_both (member v row) true t tt) rows,
    )

loads-le : (rows : List (List ℕ)) → most 256 rows ≤ most_together 0 rows
loads-le rows = largest-most (loads 256 rows) (most_together 0 rows) (λ i. go i (ltb i 256) refl)
  where
    go : (i : ℕ) (b : Bool) → ltb i 256 ≡ b → get_or (loads 256 rows) i 0 ≤ most_together 0 rows
    go i true e = rw (get_d-map-up_to (load rows) 256 i 0 (ltb-true i 256 e)) (load-le rows i)
    go i false e =
        omega (
          arith,
          get_or-eq_default (loads 256 rows) 0 {n = i} (omega (arith, length-map-up_to (load rows) 256, ltb-false i 256 e)),
        )

-- rows of bytes
module _ (r c : ℕ) (l : List ℕ) (bytes : (i : ℕ) → get_or l i 0 < 256) where
  pub counted-nodes : (x : ℕ) → x ≡ 0 → most 256 (rows_at r c l) ≡ most_together x (rows_at r c l)
  counted-nodes x e =
      let m = most 256 (rows_at r c l) in
      rw e
      (le_antisymm (loads-le (rows_at r c l))
      ((uncrowded-iff-most 0 (rows_at r c l) m).0 (first-none-of-loads r c l bytes 0 m (le_refl m))))

  pub searched-sets : (x n : ℕ) → c * r ≤ length l → All (λ row. T (ascending 0 row)) (rows_at r c l)
      → n ≡ most_tails (suc x) (row_tails 0 (rows_at r c (take (c * r - 0) (drop 0 l)))) 0 → n ≡ most_together x (rows_at r c l)
  searched-sets x n whole order e =
      e
      ∙ ap (λ (rs : List (List ℕ)). most_tails (suc x) (row_tails 0 rs) 0) (rows_taken r c l whole)
      ∙ found-most x (rows_at r c l) (good-rows r c l bytes order)
