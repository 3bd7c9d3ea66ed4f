-- What is counted of all rows, row by row. Assumes nothing.
use Prim.Native.Nat.{ℕ, zero, suc, ◌+◌, ◌*◌, ◌-◌, ◌≤◌, ◌<◌}
use native.Mathlib.Nat.{add-zero}
use native.Mathlib.Omega.{arith}
use mathlib.Core.Path.{◌≡◌, refl, sym, ap, ◌∙◌}
use mathlib.Core.List.{List, [], ◌∷◌, map, map-append}
use lib.Dec.{eqb}
use lib.ListN.{length, get_or, take, drop, length-take}
use lib.Seq.{take_all}
use Rattle.lists.specs.Lists.{total, largest, up_to}
use Rattle.lists.proofs.Arith.{run-end-le}
use Rattle.lists.proofs.Counts.{count-le-length, total-append}
use Rattle.lists.proofs.UpTo.{take-map-up_to}
use Rattle.packing.specs.Rows.{rows_at}
use Rattle.packing.proofs.RowsAt.{rows_at-add}
use Rattle.crowding.specs.Chains.{AtMost}
use Rattle.crowding_pairs.specs.Codes.{pair_number, coded, Room, Raised, RowsFit, RowsRoom}

-- how many pairs n nodes have
unfoldable pairs_of : ℕ → ℕ
pairs_of zero = 0
pairs_of (suc n) = n + pairs_of n

coded-le : (p : ℕ) (row : List ℕ) → coded p row ≤ pairs_of (length row)
unfolding coded pairs_of
coded-le p [] = omega arith
coded-le p (v ∷ row) =
    omega (arith, count-le-length (λ u. eqb p (pair_number u v)) row, coded-le p row)

pairs-ten : (n : ℕ) → n ≤ 5 → pairs_of n ≤ 10
unfolding pairs_of
pairs-ten zero h = omega arith
pairs-ten (suc zero) h = omega arith
pairs-ten (suc (suc zero)) h = omega arith
pairs-ten (suc (suc (suc zero))) h = omega arith
pairs-ten (suc (suc (suc (suc zero)))) h = omega arith
pairs-ten (suc (suc (suc (suc (suc zero))))) h = omega arith
pairs-ten (suc (suc (suc (suc (suc (suc n)))))) h = absurd (omega arith)

pub coded-ten : (p : ℕ) (row : List ℕ) → length row ≤ 5 → coded p row ≤ 10
coded-ten p row h = omega (arith, coded-le p row, pairs-ten (length row) h)

-- a row more
total-next : (f : List ℕ → ℕ) (r i : ℕ) (rows : List ℕ)
    → total (map f (rows_at r (i + 1) rows)) ≡ total (map f (rows_at r i rows)) + f (take r (drop (i * r) rows))
unfolding rows_at total
total-next f r i rows =
    let last = take r (drop (i * r) rows) in
    rw (rows_at-add r i 1 rows, map-append f (rows_at r i rows) (last ∷ []), total-append (map f (rows_at r i rows)) (f last ∷ []), add-zero (f last))

-- what `by` says of the first i rows is counted, at most ten a row in one cell
pub record Turns (by : ℕ → List ℕ → ℕ) (rows : List ℕ) (c r : ℕ) (table₀ table : List ℕ) (i : ℕ) : Type 0 where
  pub within : i ≤ c
  pub same : length table ≡ length table₀
  pub cell : (p : ℕ) → get_or table p 0 ≡ get_or table₀ p 0 + total (map (by p) (rows_at r i rows))
  pub few : AtMost (10 * i) table

pub turns-start : {by : ℕ → List ℕ → ℕ} {rows : List ℕ} {c r : ℕ} {table : List ℕ} → AtMost 0 table → Turns by rows c r table table 0
unfolding rows_at total
turns-start {r = r} {table = table} none = record {
  within = omega arith;
  same = refl;
  cell = λ p. sym (add-zero (get_or table p 0));
  few = none;
}

module _ {by : ℕ → List ℕ → ℕ} {rows : List ℕ} {c r : ℕ} {table₀ table : List ℕ} {i : ℕ} (t : Turns by rows c r table₀ table i)
    (fit : RowsFit rows c r) (h : i < c) where
  -- the row's bytes
  abbrev bytes : List ℕ
  bytes = take (i * r + r - i * r) (drop (i * r) rows)

  pub bytes-are : bytes ≡ take r (drop (i * r) rows)
  bytes-are = let e : i * r + r - i * r ≡ r = omega arith in rw e

  pub bytes-five : length bytes ≤ 5
  bytes-five = rw bytes-are (omega (arith, length-take r (drop (i * r) rows), fit.five))

  pub turn-fits : i * r + r ≤ length rows
  turn-fits = omega (arith, run-end-le r h, fit.whole)

  pub turn-few : AtMost 60000 table
  turn-few p = omega (arith, t.few p, fit.few)

  pub turn-next : {table' : List ℕ} → ((p : ℕ) → by p bytes ≤ 10) → Raised (λ p. by p bytes) table table'
      → Turns by rows c r table₀ table' (i + 1)
  turn-next {table'} ten raised = record {
    within = omega arith;
    same = raised.same ∙ t.same;
    cell = λ p.
        let is : by p bytes ≡ by p (take r (drop (i * r) rows)) = ap (by p) bytes-are in
        omega (arith, raised.cell p, t.cell p, total-next (by p) r i rows, is);
    few = λ p. omega (arith, raised.cell p, t.few p, ten p);
  }

pub turns-all : {by : ℕ → List ℕ → ℕ} {rows : List ℕ} {c r : ℕ} {table₀ table : List ℕ} {i : ℕ}
    → Turns by rows c r table₀ table i → c ≤ i → Raised (λ p. total (map (by p) (rows_at r c rows))) table₀ table
turns-all {c = c} {i = i} t h =
    let all : i ≡ c = omega (arith, t.within) in
    record { same = t.same; cell = rw all at t.cell }

-- the table of pairs has room for a row more
pub turn-room : {rows : List ℕ} {c r : ℕ} {table₀ table : List ℕ} {i : ℕ} → Turns coded rows c r table₀ table i
    → RowsRoom rows c r table₀ → i < c → Room 60000 (take (i * r + r - i * r) (drop (i * r) rows)) table
turn-room t room h = record {
  short = bytes-five t room.fit h;
  cells = rw t.same room.empty.cells;
  few = turn-few t room.fit h;
}

-- the table is the list of the counts
pub most-is : (counts : ℕ → ℕ) (cells : ℕ) (table : List ℕ) → length table ≡ cells
    → ((p : ℕ) → get_or table p 0 ≡ counts p) → largest table ≡ largest (map counts (up_to cells))
most-is counts cells table len cell =
    ap largest (sym (take_all cells table (omega arith)) ∙ take-map-up_to counts table 0 cells (omega arith) (λ p h. cell p))
