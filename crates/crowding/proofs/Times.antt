-- Nodes are counted and not linked: as many tails come after a node as it is counted. Assumes nothing.
use Prim.Native.Nat.{ℕ, zero, suc, ◌+◌, ◌-◌, ◌/◌, ◌≤◌, ◌<◌}
use mathlib.Core.Path.{◌≡◌, refl, sym, ap, ◌∙◌}
use mathlib.Core.Bool.{Bool, true, false, cond}
use mathlib.Core.List.{List, [], ◌∷◌, map}
use native.Mathlib.Numerals.{add-one}
use native.Mathlib.Omega.{arith}
use lib.ListN.{length, get_or, set, length-map}
use lib.Seq.{get_or-set_same, get_or-set_other, take_all}
use lib.Dec.{eqb}
use borrow.Author.Tests.{eqb-true, eqb-false}
use Rattle.lists.specs.Lists.{tally, largest, up_to}
use Rattle.lists.proofs.Counts.{tally-le-suc}
use Rattle.lists.proofs.Largest.{largest-le}
use Rattle.lists.proofs.UpTo.{get_d-map-up_to, take-map-up_to}
use Rattle.crowding.specs.Tails.{Tail, past, leaves, tails_after}
use Rattle.crowding.proofs.TailsFew.{length-after-le}
use Rattle.crowding.specs.Chains.{row_end, tail_at, tails_at, follow, linked, times, Ascends, largest_after, most_after}
use Rattle.crowding.proofs.Follow.{length-follow, follow-next}
use Rattle.crowding.proofs.Rows.{nodes_from, step, tails-linked}
use Rattle.crowding.proofs.Walks.{row-start, before-end}

-- the next position, and the last
times-next : (rows : List ℕ) (v f to : ℕ) → f < to
    → times rows v f (to - f) ≡ tally (eqb v (get_or rows f 0)) (times rows v (f + 1) (to - (f + 1)))
unfolding times
times-next rows v f to lt =
    let e : to - f ≡ suc (to - (f + 1)) = omega arith in
    rw (e, add-one f)

pub times-end : (rows : List ℕ) (v f to : ℕ) → to ≤ f → times rows v f (to - f) ≡ 0
unfolding times
times-end rows v f to h =
    let e : to - f ≡ 0 = omega arith in
    rw e

pub times-le : (rows : List ℕ) (v n f : ℕ) → times rows v f n ≤ n
unfolding times
times-le rows v zero f = omega arith
times-le rows v (suc n) f =
    omega (arith, times-le rows v n (suc f), tally-le-suc (eqb v (get_or rows f 0)) (times rows v (suc f) n))

-- position f is counted
pub count_turn : (rows counts : List ℕ) (f to n : ℕ) → f < to → get_or rows f 0 < length counts
    → n ≡ get_or counts (get_or rows f 0) 0 + 1 → (u : ℕ)
    → get_or (set counts (get_or rows f 0) n) u 0 + times rows u (f + 1) (to - (f + 1)) ≡ get_or counts u 0 + times rows u f (to - f)
count_turn rows counts f to n lt cv en u =
    rw (times-next rows u f to lt) (go (eqb u (get_or rows f 0)) refl)
  where
    go : (b : Bool) → eqb u (get_or rows f 0) ≡ b
        → get_or (set counts (get_or rows f 0) n) u 0 + times rows u (f + 1) (to - (f + 1))
        ≡ get_or counts u 0 + tally b (times rows u (f + 1) (to - (f + 1)))
    go true e =
        let same = eqb-true u (get_or rows f 0) e in
        let stored : get_or (set counts (get_or rows f 0) n) u 0 ≡ n =
        ap (λ (t : ℕ). get_or (set counts (get_or rows f 0) n) t 0) same ∙ get_or-set_same counts (get_or rows f 0) n 0 cv
        in
        let old : get_or counts u 0 ≡ get_or counts (get_or rows f 0) 0 = ap (λ (t : ℕ). get_or counts t 0) same in
        omega arith
    go false e = rw (get_or-set_other counts (get_or rows f 0) u n 0 (eqb-false u (get_or rows f 0) e))

-- as many positions are counted as would be linked
length-linked : (rows : List ℕ) (v n f : ℕ) (found : List ℕ) → length (linked rows v f n found) ≡ times rows v f n + length found
unfolding linked times
length-linked rows v zero f found = omega arith
length-linked rows v (suc n) f found = go (eqb v (get_or rows f 0)) (length-linked rows v n (suc f))
  where
    go : (b : Bool) → ((l : List ℕ) → length (linked rows v (suc f) n l) ≡ times rows v (suc f) n + length l)
        → length (linked rows v (suc f) n (cond b (f ∷ found) found)) ≡ tally b (times rows v (suc f) n) + length found
    go true ih = omega (arith, ih (f ∷ found))
    go false ih = ih found

-- the tails after a node, and those found before
length-one : (b : Bool) (t : Tail) (found : List Tail) (k : ℕ)
    → length (cond b (t ∷ found) found) + k ≡ length found + (length {A = Tail} (cond b (t ∷ []) []) + k)
length-one true t found k = omega arith
length-one false t found k = omega arith

length-after : (w v : ℕ) (tails found : List Tail)
    → length (tails_after w v tails found) ≡ length found + length (tails_after w v tails [])
unfolding tails_after
length-after w v [] found = omega arith
length-after w v (t ∷ tails) found =
    let next : Tail = record { row = t.row; nodes = past v t.nodes } in
    length-after w v tails (cond (leaves w v t.nodes) (next ∷ found) found)
    ∙ length-one (leaves w v t.nodes) next found (length (tails_after w v tails []))
    ∙ ap (λ (n : ℕ). length found + n) (sym (length-after w v tails (cond (leaves w v t.nodes) (next ∷ []) [])))

-- the next position of a chain: the nodes of its tail are counted; and the last
module _ (r : ℕ) (rows : List ℕ) (n : ℕ) (next : List ℕ) (p v : ℕ) where
  pub chain-times : 0 < n → Ascends r rows → 0 < r → row_end r p ≤ length rows
      → length (tails_after 0 v (tails_at r rows (follow n next p)) [])
      ≡ times rows v (p + 1) (row_end r p - (p + 1)) + length (tails_after 0 v (tails_at r rows (follow (n - 1) next (get_or next p 0))) [])
  unfolding tails_after
  chain-times some order pos whole =
      let k = row_end r p - (p + 1) in
      let rest = tails_at r rows (follow (n - 1) next (get_or next p 0)) in
      let start = row-start r p pos in
      let end = before-end r p pos in
      let one = tails-linked rows r (p / r) whole order 0 v [] k (p + 1) (omega arith) (omega arith) (omega arith) in
      let counted = length-linked rows v k (p + 1) [] in
      let mapped = length-map (linked rows v (p + 1) k []) (tail_at r rows) in
      rw (follow-next n next p some)
      (omega (arith, length-after 0 v rest (step 0 v (p / r) (nodes_from rows (p + 1) k) []), ap length one))

  pub chain-end : n ≡ 0 → length (tails_after 0 v (tails_at r rows (follow n next p)) []) ≡ 0
  unfolding follow tails_after
  chain-end e = rw e

-- never more tails than before
pub length-tails : (r : ℕ) (rows : List ℕ) (n : ℕ) (next : List ℕ) (p : ℕ) → length (tails_at r rows (follow n next p)) ≡ n
length-tails r rows n next p = length-map (follow n next p) (tail_at r rows) ∙ length-follow n next p

-- after no node there are more tails than that
pub after-most : (w : ℕ) (tails : List Tail) (v : ℕ) → v < 256 → length (tails_after (w - 1) v tails []) ≤ most_after w tails
after-most w tails v lt = go (eqb w 1) refl
  where
    after : (u : ℕ) → ℕ
    after u = length (tails_after 0 u tails [])

    go : (b : Bool) → eqb w 1 ≡ b → length (tails_after (w - 1) v tails []) ≤ cond b (largest_after 0 tails) (length tails)
    go true e =
        let zero : w - 1 ≡ 0 = omega (arith, eqb-true w 1 e) in
        rw zero (omega (arith, largest-le (map after (up_to 256)) v, get_d-map-up_to after 256 v 0 lt))
    go false e = omega (arith, length-after-le (w - 1) v tails [])

-- counts of the tails after each node have the largest number of them
pub largest-counts : (counts : List ℕ) (tails : List Tail) → length counts ≡ 256
    → ((v : ℕ) → get_or counts v 0 ≡ length (tails_after 0 v tails [])) → largest counts ≡ largest_after 0 tails
largest-counts counts tails all e =
    let same = take-map-up_to (λ v. length (tails_after 0 v tails [])) counts 0 256 (omega arith) (λ v lt. e v) in
    ap largest (sym (take_all 256 counts (omega arith)) ∙ same)
