-- Growing sets by tails finds the first crowded row of a layer. Assumes nothing.
use Prim.Native.Nat.{ℕ, suc, ◌+◌, ◌≤◌, ◌<◌}
use mathlib.Core.Path.{◌≡◌, refl, sym, ap}
use mathlib.Core.Bool.{Bool, true, false, cond, ◌&&◌, and-false}
use mathlib.Core.List.{List, [], ◌∷◌}
use mathlib.Core.Option.{Option, none, some}
use native.Mathlib.Nat.{le_refl, le_antisymm, le_trans, zero-lt-suc, not-suc-le-zero, zero-add}
use native.Mathlib.Omega.{arith}
use lib.ListN.{length}
use lib.Dec.{T, leb, ltb, leb→le, ltb→lt, lt→ltb}
use borrow.Author.Tests.{le-leb, ltb-true, ltb-false}
use Rattle.lists.specs.Lists.{All, count, tally, first_where, later}
use Rattle.lists.proofs.Tests.{and_left, and_right, and_both}
use Rattle.lists.proofs.Alls.{all-imp}
use Rattle.lists.proofs.Counts.{count-mono}
use Rattle.lists.proofs.Finds.{some-first_where}
use Rattle.lists.proofs.Listed.{all-mem, any-mem, count-mem, passing-any, passing-count}
use Rattle.packing.specs.Rows.{ascending, together, holds, subsets, SetIn, crowded, first_crowded}
use Rattle.packing.proofs.Members.{ascending-distinct}
use Rattle.packing.proofs.Sets.{subsets-in, listed-set, together-same}
use Rattle.crowding.specs.Tails.{Tail, lowest_crowded, row_tails, row_number}
use Rattle.crowding.proofs.Sets.{subsets-ascending}
use Rattle.crowding.proofs.TailSets.{GoodFrom, GoodTails, meets}
use Rattle.crowding.proofs.Lowest.{Crowds, lowest-le, lowest-early, lowest-found}

-- the rows' tails: their nodes are the rows, and their numbers go on from i
pub all-tails : (P : List ℕ → Type 0) (i : ℕ) (rows : List (List ℕ)) → All P rows → All (λ t. P t.nodes) (row_tails i rows)
unfolding row_tails
all-tails P i [] h = tt
all-tails P i (row ∷ rows) h = (h.0, all-tails P (suc i) rows h.1)

pub count-tails : (f : List ℕ → Bool) (i : ℕ) (rows : List (List ℕ)) → count (λ t. f t.nodes) (row_tails i rows) ≡ count f rows
unfolding row_tails count
count-tails f i [] = refl
count-tails f i (row ∷ rows) = ap (tally (f row)) (count-tails f (suc i) rows)

tails-from : (i : ℕ) (rows : List (List ℕ)) → All (λ t. i ≤ t.row) (row_tails i rows)
unfolding row_tails
tails-from i [] = tt
tails-from i (row ∷ rows) =
    (le_refl i, all-imp (λ t. suc i ≤ t.row) (λ t. i ≤ t.row) (λ t h. omega arith) (row_tails (suc i) rows) (tails-from (suc i) rows))

number-le : (o : Option ℕ) → ((j : ℕ) → o ≡ some j → j < 65536) → row_number o ≤ 65536
number-le none below = le_refl _
number-le (some j) below = omega (arith, below j refl)

-- the first row that passes a test, as the least row number of a tail that passes it
module _ (test : List ℕ → Bool) where
  -- the tail passes, and its row number is at most n
  abbrev passes_by : (n : ℕ) (t : Tail) → Bool
  passes_by n t = leb t.row n && test t.nodes

  first-le : (n i : ℕ) (rows : List (List ℕ)) → 0 < count (passes_by n) (row_tails i rows)
      → i + row_number (first_where test rows) ≤ n
  unfolding first_where row_tails count
  first-le n i [] pos = absurd (not-suc-le-zero pos)
  first-le n i (row ∷ rows) pos = go (test row) refl pos (first_where test rows) (first-le n (suc i) rows)
    where
      go : (b : Bool) → test row ≡ b → 0 < tally (leb i n && b) (count (passes_by n) (row_tails (suc i) rows)) → (o : Option ℕ)
          → (0 < count (passes_by n) (row_tails (suc i) rows) → suc i + row_number o ≤ n)
          → i + row_number (cond b (some 0) (later o)) ≤ n
      go true e pos o ih =
          let z = passing-count (passes_by n) (row_tails i (row ∷ rows)) (rw e pos) in
          omega (
            arith,
            all-mem (λ t. i ≤ t.row) (tails-from i (row ∷ rows)) z.listed,
            leb→le z.element.row n (and_left (leb z.element.row n) (test z.element.nodes) z.passes),
          )
      go false e pos none ih = omega (arith, ih (rw (and-false (leb i n)) at pos))
      go false e pos (some j) ih = omega (arith, ih (rw (and-false (leb i n)) at pos))

  tail-of-first : (i : ℕ) (rows : List (List ℕ)) → row_number (first_where test rows) < 65536
      → 0 < count (passes_by (i + row_number (first_where test rows))) (row_tails i rows)
  unfolding first_where row_tails count
  tail-of-first i [] lt = absurd (omega arith)
  tail-of-first i (row ∷ rows) lt = go (test row) (first_where test rows) lt (tail-of-first (suc i) rows)
    where
      go : (b : Bool) (o : Option ℕ) → row_number (cond b (some 0) (later o)) < 65536
          → (row_number o < 65536 → 0 < count (passes_by (suc i + row_number o)) (row_tails (suc i) rows))
          → 0 < tally (leb i (i + row_number (cond b (some 0) (later o))) && b)
          (count (passes_by (i + row_number (cond b (some 0) (later o)))) (row_tails (suc i) rows))
      go true o lt ih = rw (le-leb i (i + 0) (omega arith)) (zero-lt-suc _)
      go false none lt ih = absurd (omega arith)
      go false (some j) lt ih =
          let e : i + suc j ≡ suc i + j = omega arith in
          rw (e, and-false (leb i (suc i + j))) (ih (omega arith))

module _ (x bound : ℕ) (rows : List (List ℕ)) (good : All (GoodFrom 0) rows) where
  good-tails : GoodTails 0 (row_tails 0 rows)
  good-tails = all-tails (GoodFrom 0) 0 rows good

  -- a crowded tail has a set that crowds the tails
  lowest-le-tail : (i : ℕ) → 0 < count (passes_by (crowded x bound rows) i) (row_tails 0 rows)
      → lowest_crowded (suc x) bound (row_tails 0 rows) 65536 ≤ i
  unfolding crowded together
  lowest-le-tail i pos =
      let z = passing-count (passes_by (crowded x bound rows) i) (row_tails 0 rows) pos in
      let t = z.element in
      let rises = (all-mem (λ t. GoodFrom 0 t.nodes) good-tails z.listed).0 in
      let y = passing-any (λ set. ltb bound (together rows set)) (subsets (suc x) t.nodes)
      (and_right (leb t.row i) (crowded x bound rows t.nodes) z.passes) in
      let set = y.element in
      let s = all-mem (SetIn (suc x) t.nodes) (subsets-in (suc x) t.nodes (ascending-distinct 0 t.nodes rises)) y.listed in
      lowest-early (suc x) 0 bound i (row_tails 0 rows) good-tails set
      (record {
        size = s.size;
        rises = all-mem (λ set. T (ascending 0 set)) (subsets-ascending 0 (suc x) t.nodes rises) y.listed;
        many = rw (count-tails (λ row. holds row set) 0 rows) (ltb→lt bound (together rows set) y.passes);
        early = count-mem (meets (λ r. leb r i) set) z.listed
            (and_both (leb t.row i) (holds t.nodes set)
            (and_left (leb t.row i) (crowded x bound rows t.nodes) z.passes) s.held);
      })
      65536

  -- a row that holds a set which crowds the tails is crowded
  crowded-of-crowds : (i : ℕ) (set : List ℕ) → Crowds 0 (suc x) bound i (row_tails 0 rows) set → (row : List ℕ)
      → T (holds row set) → T (crowded x bound rows row)
  unfolding crowded together
  crowded-of-crowds i set c row held =
      let l = listed-set (suc x) row set
      (record { size = c.size; apart = ascending-distinct 0 set c.rises; held = held }) in
      any-mem (λ nodes. ltb bound (together rows nodes)) l.listed
      (lt→ltb bound (together rows l.set)
      (rw (together-same rows l.set set l.same, sym (count-tails (λ row. holds row set) 0 rows)) c.many))

  first-le-tail : (i : ℕ) (set : List ℕ) → Crowds 0 (suc x) bound i (row_tails 0 rows) set
      → row_number (first_crowded x bound rows) ≤ i
  unfolding first_crowded
  first-le-tail i set c =
      omega (
        arith,
        first-le (crowded x bound rows) i 0 rows
            (le_trans c.early
            (count-mono (meets (λ r. leb r i) set) (passes_by (crowded x bound rows) i)
            (λ t h. and_both (leb t.row i) (crowded x bound rows t.nodes)
            (and_left (leb t.row i) (holds t.nodes set) h)
            (crowded-of-crowds i set c t.nodes (and_right (leb t.row i) (holds t.nodes set) h)))
            (row_tails 0 rows))),
      )

  lowest-le-first : lowest_crowded (suc x) bound (row_tails 0 rows) 65536 ≤ row_number (first_crowded x bound rows)
  unfolding first_crowded
  lowest-le-first = go (ltb first 65536) refl
    where
      first : ℕ
      first = row_number (first_where (crowded x bound rows) rows)

      go : (b : Bool) → ltb first 65536 ≡ b → lowest_crowded (suc x) bound (row_tails 0 rows) 65536 ≤ first
      go true e =
          let pos = tail-of-first (crowded x bound rows) 0 rows (ltb-true first 65536 e) in
          lowest-le-tail first (rw (zero-add first) at pos)
      go false e = le_trans (lowest-le (suc x) bound (row_tails 0 rows) 65536) (ltb-false first 65536 e)

  first-le-lowest : length rows ≤ 65536
      → row_number (first_crowded x bound rows) ≤ lowest_crowded (suc x) bound (row_tails 0 rows) 65536
  unfolding first_crowded
  first-le-lowest few =
      let n = lowest_crowded (suc x) bound (row_tails 0 rows) 65536 in
      lowest-found (row_number (first_crowded x bound rows) ≤ n) (suc x) 0 bound n (row_tails 0 rows) good-tails 65536
      (le_trans (number-le (first_crowded x bound rows) (λ j e. le_trans (some-first_where (crowded x bound rows) rows [] j e).within few)))
      (first-le-tail n) (le_refl n)

-- the least row number that growing sets by tails finds is the first crowded row's
pub lowest-first : (x bound : ℕ) (rows : List (List ℕ)) → All (GoodFrom 0) rows → length rows ≤ 65536
    → lowest_crowded (suc x) bound (row_tails 0 rows) 65536 ≡ row_number (first_crowded x bound rows)
lowest-first x bound rows good few = le_antisymm (lowest-le-first x bound rows good) (first-le-lowest x bound rows good few)
