-- Failed nodes given as a list are a failure, and a file's records are its rows. Assumes nothing.
use Prim.Native.Nat.{ℕ, ◌*◌, ◌<◌}
use native.Mathlib.Omega.{arith}
use mathlib.Core.Path.{◌≡◌, refl, sym, ◌∙◌}
use mathlib.Core.Bool.{Bool, true, false, not, ◌&&◌}
use mathlib.Core.List.{List, [], ◌∷◌}
use lib.ListN.{length, drop}
use lib.Seq.{ext_get_or, drop-drop}
use lib.Dec.{T, eqb}
use borrow.Author.Tests.{eqb-true, eq-eqb, eqb-false, ne_eqb}
use Rattle.lists.specs.Lists.{All, count, up_to}
use Rattle.lists.proofs.CountUpTo.{count-up_to-congr}
use Rattle.lists.proofs.DoubleCount.{count_none, count-split, count-eqb-up_to}
use Rattle.lists.proofs.Tests.{T-not-false}
use Rattle.lists.proofs.UpTo.{length-map-up_to, get_d-map-up_to}
use Rattle.packing.specs.Rows.{member, distinct, rows_at, record_at, records_in}
use Rattle.packing.specs.Failures.{Failure, FailedNodes}
use Rattle.packing.proofs.Members.{member-here, distinct_head, distinct_tail}
use Rattle.packing.proofs.RowsAt.{length-rows_at, get_d-rows_at}

-- so many of the nodes below n are in a list of different ones
count-members : (n : ℕ) (nodes : List ℕ) → T (distinct nodes) → All (λ v. v < n) nodes
    → count (λ v. member v nodes) (up_to n) ≡ length nodes
unfolding member
count-members n [] d h = count_none (λ v. member v []) (up_to n) (λ v t. t)
count-members n (v ∷ nodes) d h =
    count-split (λ w. member w (v ∷ nodes)) v (member-here v v nodes refl) (up_to n)
    ∙ rw (
      count-eqb-up_to v n h.0,
      count-up_to-congr (λ w. member w (v ∷ nodes) && not (eqb v w)) (λ w. member w nodes) n (λ w lt. others w (eqb v w) refl),
      count-members n nodes (distinct_tail v nodes d) h.1,
    )
    (omega arith)
  where
    absent : member v nodes ≡ false
    absent = T-not-false (member v nodes) (distinct_head v nodes d)

    -- the others are in the rest of the list
    others : (w : ℕ) (t : Bool) → eqb v w ≡ t → (member w (v ∷ nodes) && not t) ≡ member w nodes
    others w true e =
        let same : v ≡ w = eqb-true v w e in
        rw (← same, eq-eqb v v refl, absent)
    others w false e =
        rw (ne_eqb w v (λ p. eqb-false v w e (sym p))) (and-true (member w nodes))
      where
        and-true : (b : Bool) → (b && true) ≡ b
        and-true true = refl
        and-true false = refl

-- "whichever k of its n nodes fail": k different nodes are a failure of k nodes
pub failure-of-nodes : (n k : ℕ) (nodes : List ℕ) → FailedNodes n k nodes → Failure n k (λ v. member v nodes)
failure-of-nodes n k nodes f = count-members n nodes f.different f.below ∙ f.number

-- the rows from the first one on are the file's records
pub rows_at-records : (bytes : List ℕ) (first r b : ℕ) → rows_at r b (drop first bytes) ≡ records_in bytes first r b
rows_at-records bytes first r b =
    ext_get_or [] (rows_at r b (drop first bytes)) (records_in bytes first r b)
    (length-rows_at r b (drop first bytes) ∙ sym (length-map-up_to (record_at bytes first r) b))
    (λ j lt.
    let less : j < b = omega (arith, length-rows_at r b (drop first bytes)) in
    get_d-rows_at r b (drop first bytes) j less
    ∙ rw (drop-drop (j * r) first bytes) (sym (get_d-map-up_to (record_at bytes first r) b j [] less)))
