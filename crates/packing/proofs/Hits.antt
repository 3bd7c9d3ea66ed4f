-- A row's replicas on failed nodes, and what changes when one failed node is up again. Assumes nothing.
use Prim.Native.Nat.{ℕ, suc, pred, ◌≤◌, ◌<◌}
use native.Mathlib.Omega.{arith}
use native.Mathlib.Nat.{le_trans, le_of_eq}
use mathlib.Core.Path.{◌≡◌, refl, sym, ◌∙◌, subst}
use mathlib.Core.Logic.{⊎_elim}
use mathlib.Core.Bool.{Bool, true, false, not, ◌&&◌, ◌||◌}
use mathlib.Core.List.{List, [], ◌∷◌}
use lib.Dec.{T, leb, ltb, eqb, ltb→lt, eqb→eq, eqb_refl, T_not}
use Rattle.lists.specs.Lists.{All, tally, count, every, up_to}
use Rattle.lists.proofs.Tests.{T_true, true-T, T-not-false, and_left, and_right, and_both, or_cases}
use Rattle.lists.proofs.Counts.{tally-le-suc, count-mono}
use Rattle.lists.proofs.Alls.{all-imp, every-all, all-every}
use Rattle.lists.proofs.UpTo.{all-up_to}
use Rattle.packing.specs.Rows.{ascending, Row, member, distinct}
use Rattle.packing.specs.Failures.{Failure, hits}
use Rattle.packing.proofs.Members.{member-here, member-later, distinct_head, distinct_tail, row-distinct}
use Rattle.lists.proofs.Alls.{all_both}
use Rattle.lists.proofs.DoubleCount.{double-count, count-split, count-eqb-up_to}

-- A record "fails when at least s of them are on failed nodes".
abbrev pub fails : (s : ℕ) (failed : ℕ → Bool) (row : List ℕ) → Bool
fails s failed row = leb s (hits failed row)

-- which nodes are failed once v is up again
unfoldable pub up : (v : ℕ) (failed : ℕ → Bool) → ℕ → Bool
up v failed w = failed w && not (eqb v w)

-- a node stands in distinct nodes once or not at all
pub count-eqb-of-distinct : (v : ℕ) (nodes : List ℕ) → T (distinct nodes) → count (eqb v) nodes ≡ tally (member v nodes) 0
unfolding count member
count-eqb-of-distinct v [] d = refl
count-eqb-of-distinct v (w ∷ nodes) d = go (eqb v w) refl (count-eqb-of-distinct v nodes (distinct_tail w nodes d))
  where
    absent : v ≡ w → member v nodes ≡ false
    absent e =
        T-not-false (member v nodes) (λ m. distinct_head w nodes d (subst (λ u. T (member u nodes)) e m))

    go : (b : Bool) → eqb v w ≡ b → count (eqb v) nodes ≡ tally (member v nodes) 0 → tally b (count (eqb v) nodes) ≡ tally (b || member v nodes) 0
    go true e ih = rw (ih, absent (eqb→eq v w (T_true e)))
    go false e ih = ih

-- a distinct row with a failed member v has one replica less on failed nodes once v is up again
pub hits-up : (v : ℕ) (failed : ℕ → Bool) (row : List ℕ) → T (distinct row) → T (failed v) → T (member v row)
    → hits failed row ≡ suc (hits (up v failed) row)
unfolding up
hits-up v failed row d f m =
    count-split failed v f row
    ∙ rw (count-eqb-of-distinct v row d, true-T (member v row) m) (omega arith)

-- once a failed node is up again, one node less is failed
pub failure-up : (n k v : ℕ) (failed : ℕ → Bool) → v < n → T (failed v) → Failure n k failed → Failure n (pred k) (up v failed)
unfolding up
failure-up n k v failed h f e =
    let s = count-split failed v f (up_to n) in
    let o = count-eqb-up_to v n h in
    omega arith

-- nodes that are failed with v up again are failed, and none of them is v
pub failed-of-up : (v : ℕ) (failed : ℕ → Bool) (nodes : List ℕ) → T (every (up v failed) nodes) → T (every failed nodes)
unfolding up
failed-of-up v failed nodes h =
    all-every failed nodes
    (all-imp (λ w. T (up v failed w)) (λ w. T (failed w)) (λ w. and_left (failed w) (not (eqb v w))) nodes (every-all (up v failed) nodes h))

pub not-member-of-up : (v : ℕ) (failed : ℕ → Bool) (nodes : List ℕ) → T (every (up v failed) nodes) → T (member v nodes) → ⊥
unfolding every member up
not-member-of-up v failed [] h m = m
not-member-of-up v failed (w ∷ nodes) h m =
    let first = and_left (up v failed w) (every (up v failed) nodes) h in
    let rest = and_right (up v failed w) (every (up v failed) nodes) h in
    ⊎_elim (T_not (eqb v w) (and_right (failed w) (not (eqb v w)) first)) (not-member-of-up v failed nodes rest)
    (or_cases (eqb v w) (member v nodes) m)

-- a row's nodes are members of it
all-member : (row : List ℕ) → All (λ w. T (member w row)) row
all-member [] = tt
all-member (v ∷ row) =
    (member-here v v row refl, all-imp (λ w. T (member w row)) (λ w. T (member w (v ∷ row))) (λ w. member-later w v row) row (all-member row))

-- at least as many of the n nodes are failed and in the row as it has replicas on failed nodes
pub hits-le-count : (n r : ℕ) (failed : ℕ → Bool) (row : List ℕ) → Row n r row → hits failed row ≤ count (λ v. failed v && member v row) (up_to n)
hits-le-count n r failed row t =
    let h = double-count (λ w v. hit v && eqb v w) failed hit 1 1 row (up_to n) each-least (λ w v. and_left (hit v) (eqb v w)) each-most in
    omega arith
  where
    hit : ℕ → Bool
    hit v = failed v && member v row

    least : (w : ℕ) → T (ltb w n) × T (member w row) → T (failed w) → 1 ≤ count (λ v. hit v && eqb v w) (up_to n)
    least w h f =
        let here = and_both (hit w) (eqb w w) (and_both (failed w) (member w row) f h.1) (eqb_refl w) in
        le_trans (le_of_eq (sym (count-eqb-up_to w n (ltb→lt w n h.0))))
        (count-mono (eqb w) (λ v. hit v && eqb v w) (λ v e. subst (λ u. T (hit u && eqb u w)) (eqb→eq w v e) here) (up_to n))

    each-least : All (λ w. T (failed w) → 1 ≤ count (λ v. hit v && eqb v w) (up_to n)) row
    each-least =
        let below = every-all (λ w. ltb w n) row (and_right (ascending 0 row) (every (λ w. ltb w n) row) t.1) in
        all-imp (λ w. T (ltb w n) × T (member w row)) (λ w. T (failed w) → 1 ≤ count (λ v. hit v && eqb v w) (up_to n)) least row
        (all_both (λ w. T (ltb w n)) (λ w. T (member w row)) row below (all-member row))

    most : (v : ℕ) → count (λ w. hit v && eqb v w) row ≤ 1
    most v =
        le_trans (count-mono (λ w. hit v && eqb v w) (eqb v) (λ w. and_right (hit v) (eqb v w)) row)
        (rw (count-eqb-of-distinct v row (row-distinct n r row t)) (tally-le-suc (member v row) 0))

    each-most : All (λ v. T (hit v) → count (λ w. hit v && eqb v w) row ≤ 1) (up_to n)
    each-most = all-up_to (λ v. T (hit v) → count (λ w. hit v && eqb v w) row ≤ 1) n (λ v below h. most v)
