-- Growing sets by tails finds the largest number of tails that hold one set of w nodes: none is in more, and one is in so many.
-- Assumes nothing.
use Prim.Native.Nat.{ℕ, zero, suc, ◌≤◌, ◌<◌}
use mathlib.Core.Path.{◌≡◌, refl, sym, ap, subst}
use mathlib.Core.Bool.{Bool, true, false}
use mathlib.Core.List.{List, [], ◌∷◌}
use native.Mathlib.Nat.{le_refl, le_trans, suc_inj, suc-ne-zero, not-suc-le-zero}
use native.Mathlib.Omega.{arith}
use lib.ListN.{length}
use lib.Dec.{T, leb, ltb, eqb, le→leb}
use borrow.Author.Tests.{ltb-true, ltb-false, eqb-true, eqb-false}
use Rattle.lists.specs.Lists.{All, count}
use Rattle.lists.proofs.Tests.{and_both}
use Rattle.packing.specs.Rows.{ascending, holds, together}
use Rattle.packing.proofs.Members.{ascending-tail}
use Rattle.crowding.specs.Tails.{Tail, tails_after, over_nodes, row_tails}
use Rattle.crowding.proofs.TailSets.{GoodFrom, GoodTails, good-after, meets, count-after}
use Rattle.crowding.proofs.Lowest.{node-of-tail, count-empty}
use Rattle.crowding.proofs.TailsFirst.{all-tails, count-tails}
use Rattle.crowding_most.specs.Most.{most_tails}

-- in how many of the tails the nodes stand together
abbrev pub held_by : (tails : List Tail) (set : List ℕ) → ℕ
held_by tails set = count (meets (λ r. true) set) tails

-- a step at each node that never lowers the number: no less than it, and than what a step brings it to
module _ (step : ℕ → ℕ → ℕ) (rises : (v best : ℕ) → best ≤ step v best) where
  over-ge : (n best : ℕ) → best ≤ over_nodes step n best
  unfolding over_nodes
  over-ge zero best = le_refl _
  over-ge (suc v) best = le_trans (rises v best) (over-ge v (step v best))

  over-reaches : (m u : ℕ) → ((best : ℕ) → m ≤ step u best) → (n best : ℕ) → u < n → m ≤ over_nodes step n best
  unfolding over_nodes
  over-reaches m u high zero best lt = absurd (not-suc-le-zero lt)
  over-reaches m u high (suc v) best lt = go (eqb u v) refl (over-reaches m u high v (step v best))
    where
      go : (b : Bool) → eqb u v ≡ b → (u < v → m ≤ over_nodes step v (step v best)) → m ≤ over_nodes step v (step v best)
      go true e ih = le_trans (subst (λ n. m ≤ step n best) (eqb-true u v e) (high best)) (over-ge v (step v best))
      go false e ih = let ne = eqb-false u v e in ih (omega arith)

-- a step at each node that never passes m does not pass it
over-le : (step : ℕ → ℕ → ℕ) (m : ℕ) → ((v best : ℕ) → best ≤ m → step v best ≤ m) → (n best : ℕ) → best ≤ m
    → over_nodes step n best ≤ m
unfolding over_nodes
over-le step m each zero best le = le
over-le step m each (suc v) best le = over-le step m each v (step v best) (each v best le)

pub most-ge : (w : ℕ) (tails : List Tail) (best : ℕ) → best ≤ most_tails w tails best
unfolding most_tails
most-ge zero tails best = omega arith
most-ge (suc w) tails best =
    over-ge (λ v best. most_tails w (tails_after w v tails []) best) (λ v best. most-ge w (tails_after w v tails []) best) 256 best

-- no set of w nodes stands in more tails
pub held-le-most : (w lo : ℕ) (tails : List Tail) → GoodTails lo tails → (set : List ℕ) → length set ≡ w → GoodFrom lo set → (best : ℕ)
    → held_by tails set ≤ most_tails w tails best
unfolding most_tails
held-le-most zero lo tails good [] size rises best = omega (arith, count-empty tails)
held-le-most zero lo tails good (v ∷ set) size rises best = absurd (suc-ne-zero _ size)
held-le-most (suc w) lo tails good [] size rises best = absurd (suc-ne-zero _ (sym size))
held-le-most (suc w) lo tails good (v ∷ set) size rises best =
    let above = ascending-tail lo v set rises.0 in
    over-reaches (λ v best. most_tails w (tails_after w v tails []) best) (λ v best. most-ge w (tails_after w v tails []) best)
    (held_by tails (v ∷ set)) v
    (λ best. rw (← count-after lo w v set (suc_inj size) above (λ r. true) tails good)
    (held-le-most w (suc v) (tails_after w v tails []) (good-after lo w v tails [] good tt) set (suc_inj size) (above, rises.1.1) best))
    256 best rises.1.0

-- and it is at most what each set of w nodes stands in
pub most-le : (w lo m : ℕ) (tails : List Tail) → GoodTails lo tails
    → ((set : List ℕ) → length set ≡ w → T (ascending lo set) → held_by tails set ≤ m) → (best : ℕ) → best ≤ m → most_tails w tails best ≤ m
unfolding most_tails ascending
most-le zero lo m tails good few best le = omega (arith, few [] refl tt, count-empty tails)
most-le (suc w) lo m tails good few best le =
    over-le (λ v best. most_tails w (tails_after w v tails []) best) m
    (λ v best le. most-le w (suc v) m (tails_after w v tails []) (good-after lo w v tails [] good tt)
    (λ set size above. rw (count-after lo w v set size above (λ r. true) tails good) (with-node v set size above)) best le)
    256 best le
  where
    with-node : (v : ℕ) (set : List ℕ) → length set ≡ w → T (ascending (suc v) set) → held_by tails (v ∷ set) ≤ m
    with-node v set size above = go (ltb 0 (held_by tails (v ∷ set))) refl
      where
        go : (b : Bool) → ltb 0 (held_by tails (v ∷ set)) ≡ b → held_by tails (v ∷ set) ≤ m
        go true e =
            let low = (node-of-tail (λ r. true) lo v tails good set (ltb-true 0 (held_by tails (v ∷ set)) e)).0 in
            few (v ∷ set) (ap suc size) (and_both (leb lo v) (ascending (suc v) set) (le→leb lo v low) above)
        go false e = omega (arith, ltb-false 0 (held_by tails (v ∷ set)) e)

module _ (w : ℕ) (rows : List (List ℕ)) (good : All (GoodFrom 0) rows) where
  good-tails : GoodTails 0 (row_tails 0 rows)
  good-tails = all-tails (GoodFrom 0) 0 rows good

  held-together : (set : List ℕ) → held_by (row_tails 0 rows) set ≡ together rows set
  unfolding together
  held-together set = count-tails (λ row. holds row set) 0 rows

  -- the number that growing sets finds in rows: each set of w nodes stands in at most so many of them
  pub together-le-most : (set : List ℕ) → length set ≡ w → GoodFrom 0 set → together rows set ≤ most_tails w (row_tails 0 rows) 0
  together-le-most set size rises =
      rw (← held-together set) (held-le-most w 0 (row_tails 0 rows) good-tails set size rises 0)

  -- and it is the least such number
  pub most-le-together : (m : ℕ) → ((set : List ℕ) → length set ≡ w → T (ascending 0 set) → together rows set ≤ m)
      → most_tails w (row_tails 0 rows) 0 ≤ m
  most-le-together m few =
      most-le w 0 m (row_tails 0 rows) good-tails (λ set size rises. rw (held-together set) (few set size rises)) 0 (omega arith)
