-- The true worst case is what its name says: the least over all failures of k of n nodes, and the first set that reaches it.
-- Assumes nothing.
use Prim.Native.Nat.{ℕ, zero, suc, ◌+◌, ◌≤◌, ◌<◌}
use native.Mathlib.Omega.{arith}
use native.Mathlib.Nat.{zero-add, add-zero, eq-or-lt_of_le}
use mathlib.Core.Path.{◌≡◌, refl, sym, ◌∙◌, ap}
use mathlib.Core.Logic.{◌⊎◌, inl, inr, ⊎_elim}
use mathlib.Core.Bool.{Bool, true, false, cond}
use mathlib.Core.List.{List, [], ◌∷◌, ◌++◌}
use lib.ListN.{length}
use lib.Dec.{T, ltb, eqb}
use borrow.Author.Tests.{eqb-true, eqb-false}
use Rattle.lists.specs.Lists.{All, tally, count, up_to}
use Rattle.lists.proofs.Alls.{all-imp}
use Rattle.lists.proofs.Counts.{count-le-length, count-congr-all}
use Rattle.lists.proofs.Tests.{T-not-false}
use Rattle.packing.specs.Rows.{ascending, member}
use Rattle.packing.specs.Failures.{Failure, FailedNodes, hits, usable}
use Rattle.packing.proofs.Members.{le-of-member, ascending-distinct}
use Rattle.worst.specs.Worst.{Worst, nodes_from, usable_without, none_yet, worst_over, Before}
use Rattle.worst.proofs.Through.{length-nodes_from}
use Rattle.worst.proofs.Sets.{Within, Lowered, within-ascending, within-below, ascending-within, through-at-most, through-lowers}

-- the failed ones of the nodes, in order
unfoldable picked : (failed : ℕ → Bool) → List ℕ → List ℕ
picked failed [] = []
picked failed (v ∷ nodes) = cond (failed v) (v ∷ picked failed nodes) (picked failed nodes)

later : (v : ℕ) (nodes set : List ℕ) → Within nodes set → Within (v ∷ nodes) set
later v nodes [] h = tt
later v nodes (w ∷ set) h = inr h

picked-within : (failed : ℕ → Bool) (nodes : List ℕ) → Within nodes (picked failed nodes)
unfolding picked
picked-within failed [] = tt
picked-within failed (v ∷ nodes) = go (failed v) (picked-within failed nodes)
  where
    go : (t : Bool) → Within nodes (picked failed nodes) → Within (v ∷ nodes) (cond t (v ∷ picked failed nodes) (picked failed nodes))
    go true h = inl (refl, h)
    go false h = later v nodes (picked failed nodes) h

length-picked : (failed : ℕ → Bool) (nodes : List ℕ) → length (picked failed nodes) ≡ count failed nodes
unfolding picked count
length-picked failed [] = refl
length-picked failed (v ∷ nodes) = go (failed v) (length-picked failed nodes)
  where
    go : (t : Bool) → length (picked failed nodes) ≡ count failed nodes
        → length (cond t (v ∷ picked failed nodes) (picked failed nodes)) ≡ tally t (count failed nodes)
    go true e = ap suc e
    go false e = e

lt-of-other : (v w : ℕ) → v ≤ w → (v ≡ w → ⊥) → v < w
lt-of-other v w h other = ⊎_elim (λ e. absurd (other e)) (λ lt. lt) (eq-or-lt_of_le h)

-- a node from v on is among the failed ones exactly where it is failed
member-picked : (failed : ℕ → Bool) (m v w : ℕ) → v ≤ w → w < v + m → member w (picked failed (nodes_from v m)) ≡ failed w
unfolding picked nodes_from member
member-picked failed zero v w low high = absurd (omega arith)
member-picked failed (suc m) v w low high =
    go (failed v) refl (eqb w v) refl (λ above. member-picked failed m (suc v) w above (omega arith))
  where
    -- v is not among those after it
    absent : member v (picked failed (nodes_from (suc v) m)) ≡ false
    absent =
        T-not-false (member v (picked failed (nodes_from (suc v) m)))
        (λ t. omega (arith, le-of-member (suc v) (picked failed (nodes_from (suc v) m)) (within-ascending m (suc v) (picked failed (nodes_from (suc v) m)) (picked-within failed (nodes_from (suc v) m))) v t))

    go : (t : Bool) → failed v ≡ t → (q : Bool) → eqb w v ≡ q → (suc v ≤ w → member w (picked failed (nodes_from (suc v) m)) ≡ failed w)
        → member w (cond t (v ∷ picked failed (nodes_from (suc v) m)) (picked failed (nodes_from (suc v) m))) ≡ failed w
    go true f true q ih = rw (q, eqb-true w v q) (sym f)
    go true f false q ih = rw q (ih (lt-of-other v w low (λ e. eqb-false w v q (sym e))))
    go false f true q ih = rw (eqb-true w v q) (absent ∙ sym f)
    go false f false q ih = ih (lt-of-other v w low (λ e. eqb-false w v q (sym e)))

-- the nodes from 0 on are the nodes below n
pub nodes_from-snoc : (v m : ℕ) → nodes_from v (suc m) ≡ nodes_from v m ++ ((v + m) ∷ [])
unfolding nodes_from
nodes_from-snoc v zero = rw add-zero refl
nodes_from-snoc v (suc m) =
    let e : suc v + m ≡ v + suc m = omega arith in
    ap (λ l. v ∷ l) (nodes_from-snoc (suc v) m ∙ rw e refl)

nodes_from-up_to : (n : ℕ) → nodes_from 0 n ≡ up_to n
unfolding up_to nodes_from
nodes_from-up_to zero = refl
nodes_from-up_to (suc n) = nodes_from-snoc 0 n ∙ rw (nodes_from-up_to n, zero-add n) refl

-- the first k of them are some of them
from-within : (v k m : ℕ) → k ≤ m → Within (nodes_from v m) (nodes_from v k)
unfolding nodes_from
from-within v zero m h = tt
from-within v (suc k) zero h = absurd (omega arith)
from-within v (suc k) (suc m) h = inl (refl, from-within (suc v) k m (omega arith))

-- the failed nodes as a set leave as many records usable as the failure does
module _ (n s : ℕ) (rows : List (List ℕ)) (nodes-below : All (All (λ v. v < n)) rows) where
  usable-picked : (failed : ℕ → Bool) → usable_without s rows (picked failed (nodes_from 0 n)) ≡ usable s rows failed
  unfolding usable
  usable-picked failed =
      count-congr-all (λ row. ltb (hits (λ v. member v (picked failed (nodes_from 0 n))) row) s) (λ row. ltb (hits failed row) s) rows
      (all-imp (All (λ v. v < n)) (λ row. ltb (hits (λ v. member v (picked failed (nodes_from 0 n))) row) s ≡ ltb (hits failed row) s)
      (λ row below. ap (λ h. ltb h s)
      (count-congr-all (λ v. member v (picked failed (nodes_from 0 n))) failed row
      (all-imp (λ v. v < n) (λ v. member v (picked failed (nodes_from 0 n)) ≡ failed v)
      (λ v lt. member-picked failed n 0 v (omega arith) (omega arith)) row below)))
      rows nodes-below)

-- no more records are usable than there are, so that some set leaves fewer than b+1
usable-le : (s : ℕ) (rows : List (List ℕ)) (failed : ℕ → Bool) → usable s rows failed ≤ length rows
unfolding usable
usable-le s rows failed = count-le-length (λ row. ltb (hits failed row) s) rows

pub fewest-le : (n s k b : ℕ) (rows : List (List ℕ)) → k ≤ n → length rows ≤ b → (worst_over n s k b rows).fewest ≤ b
fewest-le n s k b rows enough few =
    omega (
      arith,
      through-at-most (usable_without s rows) [] k (nodes_from 0 n) (none_yet b) (nodes_from 0 k) (length-nodes_from 0 k) (from-within 0 k n enough),
      usable-le s rows (λ v. member v (nodes_from 0 k)),
    )

-- definition 1 of the paper, and its first set
pub record TrueWorst (n s k : ℕ) (rows : List (List ℕ)) (worst : Worst) : Type 0 where
  -- no failure of k nodes leaves fewer records usable
  pub least : (failed : ℕ → Bool) → Failure n k failed → worst.fewest ≤ usable s rows failed
  -- the set is a failure of k nodes, as ascending numbers, and leaves so few
  pub nodes : FailedNodes n k worst.set
  pub ascends : T (ascending 0 worst.set)
  pub reached : usable_without s rows worst.set ≡ worst.fewest
  -- no set that comes before it does
  pub first : (other : List ℕ) → FailedNodes n k other → T (ascending 0 other) → Before other worst.set
      → worst.fewest < usable_without s rows other

module _ (n s k b : ℕ) (rows : List (List ℕ)) (enough : k ≤ n) (few : length rows ≤ b)
    (nodes-below : All (All (λ v. v < n)) rows) where
  least : (failed : ℕ → Bool) → Failure n k failed → (worst_over n s k b rows).fewest ≤ usable s rows failed
  least failed f =
      let set = picked failed (nodes_from 0 n) in
      let size : length set ≡ k = length-picked failed (nodes_from 0 n) ∙ ap (count failed) (nodes_from-up_to n) ∙ f in
      rw (usable-picked n s rows nodes-below failed) at
      (through-at-most (usable_without s rows) [] k (nodes_from 0 n) (none_yet b) set size (picked-within failed (nodes_from 0 n)))

  pub worst-exact : TrueWorst n s k rows (worst_over n s k b rows)
  worst-exact = go (through-lowers (usable_without s rows) [] k n 0 (none_yet b))
    where
      go : (worst_over n s k b rows ≡ none_yet b) ⊎ Lowered (usable_without s rows) [] k (nodes_from 0 n) (none_yet b) (worst_over n s k b rows)
          → TrueWorst n s k rows (worst_over n s k b rows)
      go (inl e) = absurd (omega (arith, fewest-le n s k b rows enough few, ap (λ (w : Worst). w.fewest) e))
      go (inr l) =
          let set_is : (worst_over n s k b rows).set ≡ l.set = ap (λ (w : Worst). w.set) l.is in
          let number_is : (worst_over n s k b rows).fewest ≡ usable_without s rows l.set = ap (λ (w : Worst). w.fewest) l.is in
          let up = within-ascending n 0 l.set l.within in
          record {
            least = least;
            nodes =
                rw set_is
                (record {
                  number = l.number;
                  different = ascending-distinct 0 l.set up;
                  below = all-imp (λ w. w < 0 + n) (λ w. w < n) (λ w lt. omega arith) l.set (within-below n 0 l.set l.within);
                });
            ascends = rw set_is up;
            reached = rw set_is (sym number_is);
            first = λ other f a before.
                rw number_is
                (l.first other f.number
                (ascending-within n 0 other a (all-imp (λ w. w < n) (λ w. w < 0 + n) (λ w lt. omega arith) other f.below))
                (rw set_is at before));
          }
