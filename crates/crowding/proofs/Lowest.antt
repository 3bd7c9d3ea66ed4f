-- Growing sets by tails finds the least row number of a tail that holds a crowded set of w nodes. Assumes nothing.
use Prim.Native.Nat.{ℕ, zero, suc, min, ◌≤◌, ◌<◌}
use mathlib.Core.Path.{◌≡◌, refl, sym, ap, subst}
use mathlib.Core.Logic.{◌⊎◌, inl, inr}
use mathlib.Core.Bool.{Bool, true, false, cond}
use mathlib.Core.List.{List, [], ◌∷◌}
use native.Mathlib.Nat.{le_refl, le_trans, suc_inj, suc-ne-zero, zero-lt-suc, not-suc-le-zero}
use native.Mathlib.Omega.{arith}
use lib.ListN.{length}
use lib.Dec.{T, leb, ltb, eqb, leb→le, le→leb}
use borrow.Author.Tests.{ltb-true, ltb-false, leb-true, leb-false, eqb-true, eqb-false}
use Rattle.lists.specs.Lists.{All, count, every, tally}
use Rattle.lists.proofs.Tests.{true-T, and_left, and_right, and_both, cond-elim}
use Rattle.lists.proofs.Counts.{le-tally}
use Rattle.lists.proofs.Listed.{all-mem, passing-count}
use Rattle.packing.specs.Rows.{ascending, member, holds}
use Rattle.packing.proofs.Members.{ascending-tail, le-of-member, member-cases, member-here, member-of-holds}
use Rattle.crowding.specs.Tails.{Tail, tails_after, lowest_row, over_nodes, lowest_crowded}
use Rattle.crowding.proofs.TailSets.{GoodFrom, GoodTails, good-after, meets, count-after}

-- the least row number: no more than the number so far and each tail's, and one of them
lowest-row-le : (least : ℕ) (tails : List Tail) → lowest_row least tails ≤ least
unfolding lowest_row
lowest-row-le least [] = le_refl _
lowest-row-le least (t ∷ tails) = omega (arith, lowest-row-le (min least t.row) tails)

lowest-row-early : (f : Tail → Bool) (i : ℕ) → ((t : Tail) → T (f t) → t.row ≤ i) → (least : ℕ) (tails : List Tail)
    → 0 < count f tails → lowest_row least tails ≤ i
unfolding lowest_row count
lowest-row-early f i h least [] pos = absurd (not-suc-le-zero pos)
lowest-row-early f i h least (t ∷ tails) pos = go (f t) (h t) pos (lowest-row-early f i h (min least t.row) tails)
  where
    go : (b : Bool) → (T b → t.row ≤ i) → 0 < tally b (count f tails)
        → (0 < count f tails → lowest_row (min least t.row) tails ≤ i) → lowest_row (min least t.row) tails ≤ i
    go true h pos ih = omega (arith, h tt, lowest-row-le (min least t.row) tails)
    go false h pos ih = ih pos

lowest-row-found : (Q : Type 0) (f : Tail → Bool) (i : ℕ) → ((t : Tail) → t.row ≤ i → T (f t)) → (least : ℕ) (tails : List Tail)
    → (least ≤ i → Q) → (0 < count f tails → Q) → lowest_row least tails ≤ i → Q
unfolding lowest_row count
lowest-row-found Q f i h least [] before found le = before le
lowest-row-found Q f i h least (t ∷ tails) before found le =
    lowest-row-found Q f i h (min least t.row) tails (λ le. go (leb t.row i) refl le)
    (λ pos. found (le_trans pos (le-tally (f t) (count f tails)))) le
  where
    go : (b : Bool) → leb t.row i ≡ b → min least t.row ≤ i → Q
    go true e le = found (rw (true-T (f t) (h t (leb-true t.row i e))) (zero-lt-suc _))
    go false e le = before (omega (arith, leb-false t.row i e))

-- a step at each node: no more than the number so far and what each step brings it to, and brought there by a step
module _ (step : ℕ → ℕ → ℕ) where
  over-nodes-le : ((v least : ℕ) → step v least ≤ least) → (n least : ℕ) → over_nodes step n least ≤ least
  unfolding over_nodes
  over-nodes-le falls zero least = le_refl _
  over-nodes-le falls (suc v) least = le_trans (over-nodes-le falls v (step v least)) (falls v least)

  over-nodes-early : (i u : ℕ) → ((v least : ℕ) → step v least ≤ least) → ((least : ℕ) → step u least ≤ i)
      → (n least : ℕ) → u < n → over_nodes step n least ≤ i
  unfolding over_nodes
  over-nodes-early i u falls low zero least lt = absurd (not-suc-le-zero lt)
  over-nodes-early i u falls low (suc v) least lt =
      go (eqb u v) refl (over-nodes-early i u falls low v (step v least))
    where
      go : (b : Bool) → eqb u v ≡ b → (u < v → over_nodes step v (step v least) ≤ i) → over_nodes step v (step v least) ≤ i
      go true e ih =
          le_trans (over-nodes-le falls v (step v least)) (subst (λ n. step n least ≤ i) (eqb-true u v e) (low least))
      go false e ih = let ne = eqb-false u v e in ih (omega arith)

  over-nodes-found : (Q : Type 0) (i : ℕ) → ((v least : ℕ) → (least ≤ i → Q) → step v least ≤ i → Q) → (n least : ℕ)
      → (least ≤ i → Q) → over_nodes step n least ≤ i → Q
  unfolding over_nodes
  over-nodes-found Q i each zero least before le = before le
  over-nodes-found Q i each (suc v) least before le =
      over-nodes-found Q i each v (step v least) (λ le. each v least before le) le

-- a set of w nodes that stands in more tails than `bound`, and in one whose row number is at most i
pub record Crowds (lo w bound i : ℕ) (tails : List Tail) (set : List ℕ) : Type 0 where
  pub size : length set ≡ w
  pub rises : T (ascending lo set)
  pub many : bound < count (meets (λ r. true) set) tails
  pub early : 0 < count (meets (λ r. leb r i) set) tails

all-member : (P : ℕ → Type 0) (v : ℕ) (nodes : List ℕ) → All P nodes → T (member v nodes) → P v
unfolding member
all-member P v [] h m = absurd m
all-member P v (u ∷ nodes) h m = go (member-cases v u nodes m) (all-member P v nodes h.1)
  where
    go : (v ≡ u) ⊎ T (member v nodes) → (T (member v nodes) → P v) → P v
    go (inl e) ih = subst P (sym e) h.0
    go (inr n) ih = ih n

-- a node of a set that a tail holds
pub node-of-tail : (P : ℕ → Bool) (lo v : ℕ) (tails : List Tail) → GoodTails lo tails → (set : List ℕ)
    → 0 < count (meets P (v ∷ set)) tails → (lo ≤ v) × (v < 256)
node-of-tail P lo v tails good set pos =
    let z = passing-count (meets P (v ∷ set)) tails pos in
    let nodes = z.element.nodes in
    let g = all-mem (λ t. GoodFrom lo t.nodes) good z.listed in
    let held = and_right (P z.element.row) (holds nodes (v ∷ set)) z.passes in
    let m = member-of-holds nodes (v ∷ set) held v (member-here v v set refl) in
    (le-of-member lo nodes g.0 v m, all-member (λ u. u < 256) v nodes g.1 m)

module _ (lo w v bound i : ℕ) (tails : List Tail) (good : GoodTails lo tails) (set : List ℕ) where
  -- v and the set crowd the tails where the set crowds the tails after v
  crowds-after : Crowds lo (suc w) bound i tails (v ∷ set) → Crowds (suc v) w bound i (tails_after w v tails []) set
  crowds-after c =
      let size = suc_inj c.size in
      let rises = ascending-tail lo v set c.rises in
      record {
        size = size;
        rises = rises;
        many = rw (count-after lo w v set size rises (λ r. true) tails good) c.many;
        early = rw (count-after lo w v set size rises (λ r. leb r i) tails good) c.early;
      }

  crowds-cons : Crowds (suc v) w bound i (tails_after w v tails []) set → Crowds lo (suc w) bound i tails (v ∷ set)
  unfolding ascending
  crowds-cons c =
      let early = rw (count-after lo w v set c.size c.rises (λ r. leb r i) tails good) at c.early in
      record {
        size = ap suc c.size;
        rises = and_both (leb lo v) (ascending (suc v) set) (le→leb lo v (node-of-tail (λ r. leb r i) lo v tails good set early).0) c.rises;
        many = rw (count-after lo w v set c.size c.rises (λ r. true) tails good) at c.many;
        early = early;
      }

-- no more than the number so far
pub lowest-le : (w bound : ℕ) (tails : List Tail) (least : ℕ) → lowest_crowded w bound tails least ≤ least
unfolding lowest_crowded
lowest-le zero bound tails least =
    cond-elim (λ n. n ≤ least) (ltb bound (length tails)) (λ e. lowest-row-le least tails) (λ e. le_refl _)
lowest-le (suc w) bound tails least =
    over-nodes-le (λ v least. lowest_crowded w bound (tails_after w v tails []) least)
    (λ v least. lowest-le w bound (tails_after w v tails []) least) 256 least

-- every tail holds the empty set
pub count-empty : (tails : List Tail) → count (meets (λ r. true) []) tails ≡ length tails
unfolding count holds every
count-empty [] = refl
count-empty (t ∷ tails) = ap suc (count-empty tails)

-- no more than the row number of a tail that holds a crowded set
pub lowest-early : (w lo bound i : ℕ) (tails : List Tail) → GoodTails lo tails → (set : List ℕ)
    → Crowds lo w bound i tails set → (least : ℕ) → lowest_crowded w bound tails least ≤ i
unfolding lowest_crowded
lowest-early zero lo bound i tails good [] c least =
    cond-elim (λ n. n ≤ i) (ltb bound (length tails))
    (λ e. lowest-row-early (meets (λ r. leb r i) []) i
    (λ t h. leb→le t.row i (and_left (leb t.row i) (holds t.nodes []) h)) least tails c.early)
    (λ e. absurd (omega (arith, ltb-false bound (length tails) e, count-empty tails, c.many)))
lowest-early zero lo bound i tails good (v ∷ set) c least = absurd (suc-ne-zero _ c.size)
lowest-early (suc w) lo bound i tails good [] c least = absurd (suc-ne-zero _ (sym c.size))
lowest-early (suc w) lo bound i tails good (v ∷ set) c least =
    over-nodes-early (λ v least. lowest_crowded w bound (tails_after w v tails []) least) i v
    (λ v least. lowest-le w bound (tails_after w v tails []) least)
    (lowest-early w (suc v) bound i (tails_after w v tails []) (good-after lo w v tails [] good tt) set
    (crowds-after lo w v bound i tails good set c))
    256 least (node-of-tail (λ r. leb r i) lo v tails good set c.early).1

-- the number so far, or the row number of a tail that holds a crowded set
pub lowest-found : (Q : Type 0) (w lo bound i : ℕ) (tails : List Tail) → GoodTails lo tails → (least : ℕ)
    → (least ≤ i → Q) → ((set : List ℕ) → Crowds lo w bound i tails set → Q) → lowest_crowded w bound tails least ≤ i → Q
unfolding lowest_crowded ascending holds every
lowest-found Q zero lo bound i tails good least before found le = go (ltb bound (length tails)) refl le
  where
    here : bound < length tails → 0 < count (meets (λ r. leb r i) []) tails → Crowds lo zero bound i tails []
    here many early = record { size = refl; rises = tt; many = rw (count-empty tails) many; early = early }

    go : (b : Bool) → ltb bound (length tails) ≡ b → cond b (lowest_row least tails) least ≤ i → Q
    go true e le =
        lowest-row-found Q (meets (λ r. leb r i) []) i
        (λ t h. and_both (leb t.row i) (holds t.nodes []) (le→leb t.row i h) tt) least tails before
        (λ early. found [] (here (ltb-true bound (length tails) e) early)) le
    go false e le = before le
lowest-found Q (suc w) lo bound i tails good least before found le =
    over-nodes-found (λ v least. lowest_crowded w bound (tails_after w v tails []) least) Q i
    (λ v least before le. lowest-found Q w (suc v) bound i (tails_after w v tails []) (good-after lo w v tails [] good tt) least
    before (λ set c. found (v ∷ set) (crowds-cons lo w v bound i tails good set c)) le)
    256 least before le
