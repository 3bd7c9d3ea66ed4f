-- The largest number of rows that hold one set of x+1 nodes is the least bound at which the packing test finds nothing, and the least
-- with which the rows are a packing, for any x. Assumes nothing.
use Prim.Native.Nat.{ℕ, suc, ◌-◌, ◌≤◌, ◌<◌}
use native.Mathlib.Omega.{arith}
use native.Mathlib.Nat.{le_refl, le_trans, not-suc-le-zero}
use mathlib.Core.Path.{◌≡◌, refl}
use mathlib.Core.Logic.{◌↔◌}
use mathlib.Core.Bool.{false}
use mathlib.Core.List.{List, [], ◌∷◌, map, flatten}
use mathlib.Core.Option.{Option, none, some}
use lib.ListN.{length}
use lib.Dec.{ltb}
use borrow.Author.Tests.{le-ltb, ltb-false}
use Rattle.lists.specs.Lists.{All, count, largest}
use Rattle.lists.proofs.Alls.{all-append-left, all-append-right, all_of, all-imp, all_map, all_of_map, all-flatten}
use Rattle.lists.proofs.Counts.{count-le-length}
use Rattle.lists.proofs.Tests.{true-T}
use Rattle.lists.proofs.Finds.{first_where-none, none-first_where, any_none, none_any}
use Rattle.binomial.proofs.Laws.{choose-positive}
use Rattle.packing.specs.Rows.{Row, Packing, SetIn, holds, together, subsets, crowded, first_crowded}
use Rattle.packing.proofs.Members.{row-distinct}
use Rattle.packing.proofs.Sets.{subsets-in}
use Rattle.packing.proofs.Subsets.{length-subsets}
use Rattle.packing.proofs.Test.{uncrowded-packing, packing-uncrowded, first-crowded-meaning}
use Rattle.certify.specs.Certify.{Reached, most_together}

-- the largest of a list is at most m exactly where all of it is
largest-all : (l : List ℕ) (m : ℕ) → largest l ≤ m → All (λ v. v ≤ m) l
unfolding largest
largest-all [] m h = tt
largest-all (v ∷ l) m h = (omega arith, largest-all l m (omega arith))

all-largest : (l : List ℕ) (m : ℕ) → All (λ v. v ≤ m) l → largest l ≤ m
unfolding largest
all-largest [] m h = omega arith
all-largest (v ∷ l) m h = omega (arith, h.0, all-largest l m h.1)

module _ {A : Type 0} where
  of-flatten : (P : A → Type 0) (ls : List (List A)) → All P (flatten ls) → All (All P) ls
  unfolding flatten
  of-flatten P [] h = tt
  of-flatten P (l ∷ ls) h = (all-append-left P l (flatten ls) h, of-flatten P ls (all-append-right P l (flatten ls) h))

module _ (x : ℕ) (rows : List (List ℕ)) where
  -- every set of x+1 nodes that a row lists stands in at most m rows
  abbrev Few : (m : ℕ) → List ℕ → Type 0
  Few m row = All (λ nodes. together rows nodes ≤ m) (subsets (suc x) row)

  few-of-most : (m : ℕ) → most_together x rows ≤ m → All (Few m) rows
  unfolding most_together
  few-of-most m h =
      all_of_map (All (λ nodes. together rows nodes ≤ m)) (subsets (suc x)) rows
      (of-flatten (λ nodes. together rows nodes ≤ m) (map (subsets (suc x)) rows)
      (all_of_map (λ v. v ≤ m) (together rows) (flatten (map (subsets (suc x)) rows))
      (largest-all (map (together rows) (flatten (map (subsets (suc x)) rows))) m h)))

  most-of-few : (m : ℕ) → All (Few m) rows → most_together x rows ≤ m
  unfolding most_together
  most-of-few m h =
      all-largest (map (together rows) (flatten (map (subsets (suc x)) rows))) m
      (all_map (λ v. v ≤ m) (together rows) (flatten (map (subsets (suc x)) rows))
      (all-flatten (λ nodes. together rows nodes ≤ m) (map (subsets (suc x)) rows)
      (all_map (All (λ nodes. together rows nodes ≤ m)) (subsets (suc x)) rows h)))

  -- the packing test finds nothing exactly at the bounds that are not below it: "the least bound at which it finds nothing"
  pub uncrowded-iff-most : (m : ℕ) → (first_crowded x m rows ≡ none) ↔ (most_together x rows ≤ m)
  unfolding first_crowded crowded
  uncrowded-iff-most m = (to, from)
    where
      to : first_crowded x m rows ≡ none → most_together x rows ≤ m
      to e =
          most-of-few m
          (all-imp (λ row. crowded x m rows row ≡ false) (Few m)
          (λ row quiet. all-imp (λ nodes. ltb m (together rows nodes) ≡ false) (λ nodes. together rows nodes ≤ m)
          (λ nodes no. ltb-false m (together rows nodes) no) (subsets (suc x) row)
          (none_any (λ nodes. ltb m (together rows nodes)) (subsets (suc x) row) quiet))
          rows (none-first_where (crowded x m rows) rows e))

      from : most_together x rows ≤ m → first_crowded x m rows ≡ none
      from h =
          first_where-none (crowded x m rows) rows
          (all-imp (Few m) (λ row. crowded x m rows row ≡ false)
          (λ row few. any_none (λ nodes. ltb m (together rows nodes)) (subsets (suc x) row)
          (all-imp (λ nodes. together rows nodes ≤ m) (λ nodes. ltb m (together rows nodes) ≡ false)
          (λ nodes le. le-ltb m (together rows nodes) le) (subsets (suc x) row) few))
          rows (few-of-most m h))

  -- no set is in more rows than there are
  pub most-le-length : most_together x rows ≤ length rows
  unfolding together
  most-le-length =
      most-of-few (length rows)
      (all_of (Few (length rows)) (λ row. all_of (λ nodes. together rows nodes ≤ length rows)
      (λ nodes. count-le-length (λ row. holds row nodes) rows) (subsets (suc x) row)) rows)

  module _ (n r : ℕ) (are : All (Row n r) rows) where
    -- with it the rows are a packing, whichever x+1 nodes are looked at
    pub most-packing : Packing x (most_together x rows) rows
    most-packing = uncrowded-packing x (most_together x rows) rows ((uncrowded-iff-most (most_together x rows)).1 (le_refl _))

    -- and with no smaller bound: it is "the least lambda that holds"
    pub most-least : (m : ℕ) → Packing x m rows → most_together x rows ≤ m
    most-least m p = (uncrowded-iff-most m).0 (packing-uncrowded x m rows n r p are)

-- a row of more than x nodes has a set of x+1, which is in that row
row-positive : (x n r : ℕ) (row : List ℕ) (rows : List (List ℕ)) → Row n r row → x < r → 1 ≤ most_together x (row ∷ rows)
unfolding together count
row-positive x n r row rows g h =
    find (subsets (suc x) row) full (subsets-in (suc x) row (row-distinct n r row g))
    (few-of-most x (row ∷ rows) (most_together x (row ∷ rows)) (le_refl _)).0
  where
    full : 1 ≤ length (subsets (suc x) row)
    full = rw (length-subsets (suc x) row, g.0) (choose-positive r (suc x) h)

    find : (sets : List (List ℕ)) → 1 ≤ length sets → All (SetIn (suc x) row) sets
        → All (λ nodes. together (row ∷ rows) nodes ≤ most_together x (row ∷ rows)) sets → 1 ≤ most_together x (row ∷ rows)
    find [] lt in_row few = absurd (not-suc-le-zero lt)
    find (nodes ∷ more) lt in_row few =
        let here : 1 ≤ together (row ∷ rows) nodes = rw (true-T (holds row nodes) in_row.0.held) (omega arith) in
        le_trans here few.0

pub most-positive : (x n r : ℕ) (rows : List (List ℕ)) → All (Row n r) rows → x < r → 0 < length rows → 1 ≤ most_together x rows
most-positive x n r [] are h lt = absurd (not-suc-le-zero lt)
most-positive x n r (row ∷ rows) are h lt = row-positive x n r row rows are.0 h

-- and some set stands together in just so many: one less is not enough for a packing
pub most-reached : (x n r : ℕ) (rows : List (List ℕ)) → All (Row n r) rows → x < r → 0 < length rows → Reached x (most_together x rows) rows
most-reached x n r rows are h lt = go (first_crowded x (most_together x rows - 1) rows) refl
  where
    go : (o : Option ℕ) → first_crowded x (most_together x rows - 1) rows ≡ o → Reached x (most_together x rows) rows
    go none e =
        let least = most-positive x n r rows are h lt in
        let most = (uncrowded-iff-most x rows (most_together x rows - 1)).0 e in
        absurd (omega arith)
    go (some i) e =
        let c = ((first-crowded-meaning x (most_together x rows - 1) rows n r i are).0 e).crowding in
        let above = c.crowds in
        let most = most-packing x rows n r are c.nodes c.inside.size c.inside.apart in
        record { nodes = c.nodes; size = c.inside.size; apart = c.inside.apart; number = omega arith }
