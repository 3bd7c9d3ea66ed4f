-- Leaving nodes out of a sum gives the sums of the sets of the other nodes. Assumes nothing.
use Prim.Native.Nat.{ℕ, zero, suc, ◌+◌, ◌-◌, ◌≤◌, ◌<◌}
use native.Mathlib.Nat.{add_assoc, add-zero, zero-add}
use native.Mathlib.Omega.{arith}
use mathlib.Core.Path.{◌≡◌, refl, sym, ap, ap₂, ◌∙◌}
use mathlib.Core.Bool.{Bool}
use mathlib.Core.List.{List, [], ◌∷◌, map}
use lib.ListN.{length, get_or}
use Rattle.lists.specs.Lists.{count}
use Rattle.lists.proofs.Counts.{count-append, count_map, count-congr, tally-le-suc}
use Rattle.packing.specs.Rows.{subsets}
use Rattle.binomial.specs.Choose.{choose}
use Rattle.binomial.proofs.Laws.{choose_one, choose-mono}
use Rattle.crowding.proofs.Sets.{subsets-short}
use Rattle.crowding_sums.specs.Sums.{weigh, leaving, leaving_row}

-- more nodes than there are can't be left out
leaving-short : (weights : List ℕ) (f : ℕ → Bool) (d sum : ℕ) (nodes : List ℕ) → length nodes < d → leaving weights f d sum nodes ≡ 0
unfolding leaving
leaving-short weights f zero sum nodes h = absurd (omega arith)
leaving-short weights f (suc d) sum [] h = refl
leaving-short weights f (suc d) sum (v ∷ nodes) h =
    ap₂ ◌+◌ (leaving-short weights f d (sum - get_or weights v 0) nodes (omega arith)) (leaving-short weights f (suc d) sum nodes (omega arith))

-- all nodes of a row are its one set of as many
subsets-whole : (row : List ℕ) → subsets (length row) row ≡ row ∷ []
unfolding subsets
subsets-whole [] = refl
subsets-whole (v ∷ row) = rw (subsets-whole row, subsets-short (suc (length row)) row (omega arith))

-- beside `more`, leaving d nodes out leaves the sums of the sets of the others
leaving-sets : (weights : List ℕ) (f : ℕ → Bool) (d size more : ℕ) (row : List ℕ) → length row ≡ size + d
    → leaving weights f d (more + weigh weights row) row ≡ count (λ s. f (more + weigh weights s)) (subsets size row)
unfolding leaving weigh count subsets
leaving-sets weights f zero size more row e =
    let all : size ≡ length row = omega arith in
    rw (all, subsets-whole row)
leaving-sets weights f (suc d) size more [] e = absurd (omega arith)
leaving-sets weights f (suc d) zero more (v ∷ row) e =
    let left : more + (get_or weights v 0 + weigh weights row) - get_or weights v 0 ≡ more + weigh weights row = omega arith in
    rw (
      left,
      leaving-sets weights f d 0 more row (omega arith),
      leaving-short weights f (suc d) (more + (get_or weights v 0 + weigh weights row)) row (omega arith),
    )
    (add-zero _)
leaving-sets weights f (suc d) (suc size) more (v ∷ row) e =
    let w = get_or weights v 0 in
    let left : more + (w + weigh weights row) - w ≡ more + weigh weights row = omega arith in
    let kept : more + (w + weigh weights row) ≡ more + w + weigh weights row = omega arith in
    let with-v = leaving-sets weights f (suc d) size (more + w) row (omega arith) in
    let without-v = leaving-sets weights f d (suc size) more row (omega arith) in
    omega (
      arith,
      ap (λ n. leaving weights f d n row) left ∙ without-v,
      ap (λ n. leaving weights f (suc d) n row) kept ∙ with-v,
      count-append (λ s. f (more + weigh weights s)) (map (λ s. v ∷ s) (subsets size row)) (subsets (suc size) row),
      count_map (λ s. f (more + weigh weights s)) (λ s. v ∷ s) (subsets size row),
      count-congr (λ s. f (more + (w + weigh weights s))) (λ s. f (more + w + weigh weights s))
          (λ s. ap f (sym (add_assoc more w (weigh weights s)))) (subsets size row),
    )

-- a row with d nodes more than the sets
pub leaving-row : (weights : List ℕ) (f : ℕ → Bool) (d size : ℕ) (row : List ℕ) → length row ≡ size + d
    → leaving_row weights f d row ≡ count (λ s. f (weigh weights s)) (subsets size row)
leaving-row weights f d size row e =
    ap (λ n. leaving weights f d n row) (sym (zero-add (weigh weights row)))
    ∙ leaving-sets weights f d size 0 row e
    ∙ count-congr (λ s. f (0 + weigh weights s)) (λ s. f (weigh weights s)) (λ s. ap f (zero-add (weigh weights s)))
    (subsets size row)

leaving-le : (weights : List ℕ) (f : ℕ → Bool) (d sum : ℕ) (nodes : List ℕ) → leaving weights f d sum nodes ≤ choose (length nodes) d
unfolding leaving choose
leaving-le weights f zero sum nodes = tally-le-suc (f sum) 0
leaving-le weights f (suc d) sum [] = omega arith
leaving-le weights f (suc d) sum (v ∷ nodes) =
    omega (arith, leaving-le weights f d (sum - get_or weights v 0) nodes, leaving-le weights f (suc d) sum nodes)

ways : (d : ℕ) → d ≤ 2 → choose 5 d ≤ 10
unfolding choose
ways zero h = omega arith
ways (suc zero) h = omega arith
ways (suc (suc zero)) h = omega arith
ways (suc (suc (suc d))) h = absurd (omega arith)

-- at most ten sums of a row pass a test
pub leaving-ten : (weights : List ℕ) (f : ℕ → Bool) (d sum : ℕ) (nodes : List ℕ) → d ≤ 2 → length nodes ≤ 5 → leaving weights f d sum nodes ≤ 10
leaving-ten weights f d sum nodes two five =
    omega (arith, leaving-le weights f d sum nodes, choose-mono (length nodes) 5 d five, ways d two)

pub leaving-one-le : (weights : List ℕ) (f : ℕ → Bool) (sum : ℕ) (nodes : List ℕ) → leaving weights f 1 sum nodes ≤ length nodes
leaving-one-le weights f sum nodes = omega (arith, leaving-le weights f 1 sum nodes, choose_one (length nodes))
