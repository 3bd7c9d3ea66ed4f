-- How many records fail at the most when k nodes do, for a packing of sets of any size x+1. Assumes nothing.
use Prim.Native.Nat.{ℕ, zero, suc, pred, ◌+◌, ◌*◌, ◌/◌, ◌≤◌, ◌<◌}
use native.Mathlib.Omega.{arith}
use native.Mathlib.Nat.{le_refl, le_trans, zero-lt-suc, not-suc-le-zero, le_of_suc-le-suc, le-div_iff_mul-le, add-le-add}
use mathlib.Core.Path.{◌≡◌, refl, ap, subst}
use mathlib.Core.Bool.{Bool, true, false, not, ◌&&◌, and_assoc}
use mathlib.Core.List.{List, [], ◌∷◌}
use lib.ListN.{length}
use lib.Dec.{T, ltb, leb→le, le→leb, nltb→le}
use Rattle.lists.specs.Lists.{All, count, every, up_to}
use Rattle.lists.proofs.Tests.{and_left, and_right, and_both}
use Rattle.lists.proofs.Counts.{count-mono, count-not}
use Rattle.lists.proofs.Alls.{all-imp}
use Rattle.lists.proofs.UpTo.{all-up_to}
use Rattle.binomial.specs.Choose.{choose}
use Rattle.packing.specs.Rows.{Row, member, distinct, holds, together, Packing}
use Rattle.packing.specs.Failures.{Failure, hits, usable}
use Rattle.packing.proofs.Members.{distinct_cons, row-distinct}
use Rattle.lists.proofs.DoubleCount.{count-mono-all, double-count}
use Rattle.packing.proofs.Hits.{fails, up, hits-up, failure-up, failed-of-up, not-member-of-up, hits-le-count}
use Rattle.packing.proofs.Floors.{nested_floors, nested-le-floor}

-- every set of j failed nodes stands together in at most `bound` of the rows that pass
abbrev pub Sparse : (j bound : ℕ) (rows : List (List ℕ)) (failed : ℕ → Bool) (passes : List ℕ → Bool) → Type 0
Sparse j bound rows failed passes =
    (nodes : List ℕ) → length nodes ≡ j → T (distinct nodes) → T (every failed nodes) → count (λ row. passes row && holds row nodes) rows ≤ bound

-- among the rows through a failed node v it holds of the sets of one node less, once v is up again
sparse-up : (j bound v : ℕ) (rows : List (List ℕ)) (failed : ℕ → Bool) (passes : List ℕ → Bool) → T (failed v)
    → Sparse (suc j) bound rows failed passes → Sparse j bound rows (up v failed) (λ row. passes row && member v row)
unfolding every holds
sparse-up j bound v rows failed passes f h nodes e d u =
    let apart = distinct_cons v nodes (not-member-of-up v failed nodes u) d in
    let down = and_both (failed v) (every failed nodes) f (failed-of-up v failed nodes u) in
    le_trans
    (count-mono (λ row. passes row && member v row && holds row nodes) (λ row. passes row && holds row (v ∷ nodes))
    (λ row. subst T (and_assoc (passes row) (member v row) (holds row nodes))) rows)
    (h (v ∷ nodes) (ap suc e) apart down)

-- a row that fails and has the failed node v fails at a threshold one lower, once v is up again
fails-up : (v s : ℕ) (failed : ℕ → Bool) (p : Bool) (row : List ℕ) → T (distinct row)
    → T (failed v && (p && fails (suc s) failed row && member v row)) → T (p && member v row && fails s (up v failed) row)
fails-up v s failed p row d t =
    let f = and_left (failed v) (p && fails (suc s) failed row && member v row) t in
    let rest = and_right (failed v) (p && fails (suc s) failed row && member v row) t in
    let here = and_left (p && fails (suc s) failed row) (member v row) rest in
    let m = and_right (p && fails (suc s) failed row) (member v row) rest in
    let more = leb→le (suc s) (hits failed row) (and_right p (fails (suc s) failed row) here) in
    and_both (p && member v row) (fails s (up v failed) row)
    (and_both p (member v row) (and_left p (fails (suc s) failed row) here) m)
    (le→leb s (hits (up v failed) row) (omega (arith, hits-up v failed row d f m)))

-- a row that fails has at least s failed nodes
le-count-of-fails : (n r s : ℕ) (failed : ℕ → Bool) (row : List ℕ) (q : Bool) → Row n r row → T q → T (fails s failed row)
    → s ≤ count (λ v. failed v && (q && member v row)) (up_to n)
le-count-of-fails n r s failed row true o t f =
    le_trans (leb→le s (hits failed row) f) (hits-le-count n r failed row o)
le-count-of-fails n r s failed row false o t f = absurd t

-- Each row that fails has at least s+1 failed nodes. So where at most m of these rows go through each of the k failed
-- nodes, s+1 times their number is at most m × k.
failed-mul-le : (n r k s m : ℕ) (rows : List (List ℕ)) (failed : ℕ → Bool) (passes : List ℕ → Bool) → All (Row n r) rows
    → Failure n k failed
    → ((v : ℕ) → v < n → T (failed v) → count (λ row. passes row && member v row && fails s (up v failed) row) rows ≤ m)
    → suc s * count (λ row. passes row && fails (suc s) failed row) rows ≤ m * k
failed-mul-le n r k s m rows failed passes o e through =
    rw e
    at (double-count through-node lost failed (suc s) m rows (up_to n)
    (all-imp (Row n r) (λ row. T (lost row) → suc s ≤ count (through-node row) (up_to n)) least rows o)
    (λ row v. and_left (failed v) (lost row && member v row))
    (all-up_to (λ v. T (failed v) → count (λ row. through-node row v) rows ≤ m) n most))
  where
    lost : List ℕ → Bool
    lost row = passes row && fails (suc s) failed row

    through-node : List ℕ → ℕ → Bool
    through-node row v = failed v && (lost row && member v row)

    least : (row : List ℕ) → Row n r row → T (lost row) → suc s ≤ count (through-node row) (up_to n)
    least row order t =
        le-count-of-fails n r (suc s) failed row (lost row) order t (and_right (passes row) (fails (suc s) failed row) t)

    lower : (v : ℕ) (row : List ℕ) → Row n r row → T (through-node row v) → T (passes row && member v row && fails s (up v failed) row)
    lower v row order = fails-up v s failed (passes row) row (row-distinct n r row order)

    most : (v : ℕ) → v < n → T (failed v) → count (λ row. through-node row v) rows ≤ m
    most v below f =
        le_trans
        (count-mono-all (λ row. through-node row v) (λ row. passes row && member v row && fails s (up v failed) row) rows
        (all-imp (Row n r) (λ row. T (through-node row v) → T (passes row && member v row && fails s (up v failed) row)) (lower v) rows o))
        (through v below f)

-- By induction on the size j of the sets: through each failed node v go as many of the rows that fail as the nested floors
-- for one node less allow.
pub failed-le-nested : (n r j k s bound : ℕ) (rows : List (List ℕ)) (failed : ℕ → Bool) (passes : List ℕ → Bool) → j ≤ s
    → All (Row n r) rows → Failure n k failed → Sparse j bound rows failed passes
    → count (λ row. passes row && fails s failed row) rows ≤ nested_floors j bound k s
unfolding nested_floors every holds distinct
failed-le-nested n r zero k s bound rows failed passes h o e sparse =
    le_trans
    (count-mono (λ row. passes row && fails s failed row) (λ row. passes row && holds row [])
    (λ row t. and_both (passes row) true (and_left (passes row) (fails s failed row) t) tt) rows)
    (sparse [] refl tt tt)
failed-le-nested n r (suc j) k zero bound rows failed passes h o e sparse = absurd (not-suc-le-zero h)
failed-le-nested n r (suc j) k (suc s) bound rows failed passes h o e sparse =
    let through = failed-mul-le n r k s (nested_floors j bound (pred k) s) rows failed passes o e
    (λ v below f. failed-le-nested n r j (pred k) s bound rows (up v failed) (λ row. passes row && member v row)
    (le_of_suc-le-suc h) o (failure-up n k v failed below f e) (sparse-up j bound v rows failed passes f sparse)) in
    (le-div_iff_mul-le (zero-lt-suc s)).1 (omega arith)

-- whichever k nodes are failed, a packing's records that fail are at most the nested floors
pub failed-le-floors : (n r x s k bound : ℕ) (rows : List (List ℕ)) (failed : ℕ → Bool) → suc x ≤ s → All (Row n r) rows
    → Packing x bound rows → Failure n k failed → length rows ≤ usable s rows failed + nested_floors (suc x) bound k s
unfolding usable together
failed-le-floors n r x s k bound rows failed h o packing e =
    let nested = failed-le-nested n r (suc x) k s bound rows failed (λ row. true) h o e (λ nodes l d f. packing nodes l d) in
    let others = count-mono (λ row. not (ltb (hits failed row) s)) (fails s failed)
    (λ row t. le→leb s (hits failed row) (nltb→le (hits failed row) s t)) rows in
    let all = count-not (λ row. ltb (hits failed row) s) rows in
    omega arith

-- "Loss of a layer": they are at most floor(bound × C(k,x+1) / C(s,x+1))
pub failed-le-loss : (n r x s k bound : ℕ) (rows : List (List ℕ)) (failed : ℕ → Bool) → suc x ≤ s → All (Row n r) rows
    → Packing x bound rows → Failure n k failed → length rows ≤ usable s rows failed + bound * choose k (suc x) / choose s (suc x)
failed-le-loss n r x s k bound rows failed h o packing e =
    le_trans (failed-le-floors n r x s k bound rows failed h o packing e)
    (add-le-add (le_refl (usable s rows failed)) (nested-le-floor (suc x) bound k s h))
