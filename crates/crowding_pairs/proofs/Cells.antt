-- The cells of a table while pairs are counted in it. Assumes nothing.
use Prim.Native.Nat.{ℕ, ◌+◌, ◌*◌, ◌-◌, ◌≤◌, ◌<◌}
use native.Mathlib.Nat.{add_assoc, add-zero, mul-le-mul}
use native.Mathlib.Numerals.{add-one}
use native.Mathlib.Omega.{arith}
use mathlib.Core.Path.{◌≡◌, refl, sym, ◌∙◌}
use mathlib.Core.Bool.{Bool, true, false}
use mathlib.Core.List.{List, [], ◌∷◌}
use lib.Dec.{eqb}
use lib.ListN.{length, get_or, take, drop, set, length-set, length-drop, drop_of_length-le}
use lib.Seq.{take-suc, take_all, get_or-set_same, get_or-set_other, length-take-le}
use borrow.Author.Tests.{eqb-true, eqb-false}
use Rattle.lists.specs.Lists.{tally, count}
use Rattle.lists.proofs.Parts.{drop-next}
use Rattle.lists.proofs.Writing.{take-drop-rest}
use Rattle.lists.proofs.Counts.{count-append, count-le-length}
use Rattle.crowding.specs.Chains.{AtMost}
use Rattle.crowding_pairs.specs.Codes.{pair_number, pair_cells, with_low, coded, Room, Raised}

-- twice the first number of a byte's pairs
pub triangle-le : (v : ℕ) → v < 256 → v * (v + 1) ≤ 65280
triangle-le v h =
    let byte : v ≤ 255 = omega arith in
    let above : v + 1 ≤ 256 = omega arith in
    mul-le-mul byte above

-- two bytes have a cell
pub pair_fits : (v low : ℕ) → v < 256 → low < 256 → pair_number v low < pair_cells
pair_fits v low h l = omega (arith, triangle-le v h)

-- one cell is raised by one
pub raised-one : (table : List ℕ) (q : ℕ) → q < length table → Raised (λ p. tally (eqb p q) 0) table (set table q (get_or table q 0 + 1))
raised-one table q fits = record { same = length-set table q (get_or table q 0 + 1); cell = λ p. go p (eqb p q) refl }
  where
    go : (p : ℕ) (b : Bool) → eqb p q ≡ b → get_or (set table q (get_or table q 0 + 1)) p 0 ≡ get_or table p 0 + tally (eqb p q) 0
    go p true e =
        let same : p ≡ q = eqb-true p q e in
        rw (e, same, get_or-set_same table q (get_or table q 0 + 1) 0 fits)
    go p false e = rw (e, get_or-set_other table q p (get_or table q 0 + 1) 0 (eqb-false p q e)) (omega arith)

-- the pairs of `low` and the nodes before i are counted
pub record After (low : ℕ) (nodes table₀ table : List ℕ) (i : ℕ) : Type 0 where
  pub within : i ≤ length nodes
  pub same : length table ≡ length table₀
  pub cell : (p : ℕ) → get_or table p 0 ≡ get_or table₀ p 0 + with_low p low (take i nodes)

pub after-start : {low : ℕ} {nodes table : List ℕ} → After low nodes table table 0
unfolding count
after-start {table = table} = record { within = omega arith; same = refl; cell = λ p. omega arith }

module _ {low : ℕ} {nodes table₀ table : List ℕ} {i : ℕ} (a : After low nodes table₀ table i) (h : i < length nodes) where
  -- one pair more
  next-cell : let q = pair_number (get_or nodes i 0) low in
      q < length table → (p : ℕ)
      → get_or (set table q (get_or table q 0 + 1)) p 0 ≡ get_or table₀ p 0 + with_low p low (take (i + 1) nodes)
  unfolding count
  next-cell fits p =
      let q = pair_number (get_or nodes i 0) low in
      rw (
        add-one i,
        take-suc nodes i 0 h,
        count-append (λ v. eqb p (pair_number v low)) (take i nodes) (get_or nodes i 0 ∷ []),
        ← add_assoc (get_or table₀ p 0) (with_low p low (take i nodes)) (tally (eqb p q) 0),
        ← a.cell p,
      )
      ((raised-one table q fits).cell p)

  pub after_next : let q = pair_number (get_or nodes i 0) low in
      q < length table → After low nodes table₀ (set table q (get_or table q 0 + 1)) (i + 1)
  after_next fits = record {
    within = omega arith;
    same = length-set table (pair_number (get_or nodes i 0) low) (get_or table (pair_number (get_or nodes i 0) low) 0 + 1) ∙ a.same;
    cell = next-cell fits;
  }

  -- no cell passes 16 bits
  pub after_small : Room 65000 nodes table₀ → (p n : ℕ) → n ≤ 500 → get_or table p 0 + n < 65536
  after_small room p n few =
      omega (
        arith,
        a.cell p,
        room.few p,
        room.short,
        count-le-length (λ v. eqb p (pair_number v low)) (take i nodes),
        length-take-le i nodes a.within,
      )

pub after-all : {low : ℕ} {nodes table₀ table : List ℕ} {i : ℕ} → After low nodes table₀ table i → length nodes ≤ i
    → Raised (λ p. with_low p low nodes) table₀ table
after-all {nodes = nodes} {i = i} a h = record { same = a.same; cell = rw (take_all i nodes h) at a.cell }

coded-cons : (p v : ℕ) (row : List ℕ) → coded p (v ∷ row) ≡ with_low p v row + coded p row
unfolding coded
coded-cons p v row = refl

-- the pairs of a row whose first node is before k are counted
pub record Part (row table₀ table : List ℕ) (k : ℕ) : Type 0 where
  pub within : k ≤ length row
  pub same : length table ≡ length table₀
  pub cell : (p : ℕ) → get_or table p 0 + coded p (drop k row) ≡ get_or table₀ p 0 + coded p row
  pub few : AtMost (60000 + 5 * k) table

pub part_start : {row table : List ℕ} → Room 60000 row table → Part row table table 0
part_start room = record { within = omega arith; same = refl; cell = λ p. refl; few = λ p. omega (arith, room.few p) }

module _ {row table₀ table : List ℕ} {k : ℕ} (part : Part row table₀ table k) (h : k < length row) where
  -- the nodes after place k
  abbrev rest : List ℕ
  rest = take (length row - (k + 1)) (drop (k + 1) row)

  rest-is : rest ≡ drop (k + 1) row
  rest-is = take-drop-rest row (k + 1)

  rest-short : length row ≤ 5 → length rest ≤ 5
  rest-short five = rw rest-is (simp length-drop (omega arith))

  pub part_room : Room 60000 row table₀ → Room 65000 rest table
  part_room room = record {
    short = rest-short room.short;
    cells = rw part.same room.cells;
    few = λ p. omega (arith, part.few p, room.short);
  }

  pub part_next : {table' : List ℕ} (low : ℕ) → low ≡ get_or row k 0 → length row ≤ 5 → Raised (λ p. with_low p low rest) table table'
      → Part row table₀ table' (k + 1)
  part_next {table'} low e five r = record {
    within = omega arith;
    same = r.same ∙ part.same;
    cell = λ p.
        let split : coded p (drop k row) ≡ with_low p low rest + coded p (drop (k + 1) row) =
        rw (e, drop-next row k 0 h, rest-is) (coded-cons p (get_or row k 0) (drop (k + 1) row)) in
        omega (arith, r.cell p, part.cell p, split);
    few = λ p. omega (
      arith,
      r.cell p,
      part.few p,
      count-le-length (λ v. eqb p (pair_number v low)) rest,
      rest-short five,
    );
  }

pub part_all : {row table₀ table : List ℕ} {k : ℕ} → Part row table₀ table k → length row ≤ k
    → Raised (λ p. coded p row) table₀ table
unfolding coded
part_all {row} {table₀} {table} {k} part h = record {
  same = part.same;
  cell = λ p. sym (add-zero (get_or table p 0)) ∙ rw (drop_of_length-le row h) at (part.cell p);
}
