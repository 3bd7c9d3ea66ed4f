-- What can fail, from the code's answer: in a placement without feeders the nodes, with feeders the rows of feeders by the code's table.
-- Assumes nothing.
use Prim.Native.Nat.{ℕ, ◌+◌, ◌*◌, ◌-◌, ◌≤◌, ◌<◌}
use native.Mathlib.Omega.{arith}
use mathlib.Core.Path.{◌≡◌, refl, sym, ◌∙◌, ap}
use mathlib.Core.Bool.{Bool, true, false}
use mathlib.Core.List.{List, ◌++◌, map, flatten}
use mathlib.Core.Option.{Option, none, some}
use lib.ListN.{length, take, drop, get_or, replicate, length-append, length-replicate, length-map, get_or-replicate, get_or-eq_default, get_or-append}
use lib.Seq.{get_or-take, get_or-append-add}
use lib.Dec.{T, ltb, ltb→lt}
use borrow.Author.Tests.{ltb-true, ltb-false, ne_eqb}
use Rattle.lists.specs.Lists.{All}
use Rattle.lists.proofs.Alls.{all-imp, all-flatten, every-all, length-flatten}
use Rattle.lists.proofs.Tests.{and_right}
use Rattle.refusal.specs.Checked.{accepted}
use Rattle.packing.specs.Rows.{ascending, Row, rows_at}
use Rattle.packing.proofs.RowsAt.{rows_at-flatten, flatten-rows_at}
use Rattle.layers.specs.Layers.{Located, all_rows}
use Rattle.layers.specs.Answers.{nodes_array}
use Rattle.layers.proofs.Listing.{length-nodes_array}
use Rattle.layers.proofs.Lengths.{length-all_rows}
use Rattle.placement.specs.Feeders.{Feeders, FeederLimits, FeedersFit, ordered, feeder_row, units_of}
use Rattle.placement.specs.Placement.{Placement, GoodPlacement, read_placement}
use Rattle.placement.specs.Units.{units, unit_rows}
use Rattle.placement.specs.Answers.{table_of, units_by, row_by_table, rows_by_table}
use Rattle.placement.proofs.Rows.{RowsIn, rows_in}
use Rattle.placement.proofs.FeederRows.{feeder-all_rows}
use Rattle.placement.proofs.Units.{unit-rows-are}

-- entries past the nodes are 0, as past the list
pub get_d-nodes_array : (each : List ℕ) → length each ≤ 255 → (v : ℕ) → get_or (nodes_array each) v 0 ≡ get_or each v 0
unfolding nodes_array
get_d-nodes_array each few v = go (ltb v 255) refl (ltb v (length each)) refl
  where
    long : length (each ++ replicate 255 0) ≡ length each + 255
    long = length-append each (replicate 255 0) ∙ ap (λ n. length each + n) (length-replicate {A = ℕ} 255 0)

    go : (b : Bool) → ltb v 255 ≡ b → (c : Bool) → ltb v (length each) ≡ c → get_or (nodes_array each) v 0 ≡ get_or each v 0
    go true p true q =
        get_or-take 255 (each ++ replicate 255 0) v 0 (ltb-true v 255 p) ∙ get_or-append each (replicate 255 0) 0 v (ltb-true v (length each) q)
    go true p false q =
        let h = ltb-true v 255 p in
        let k = ltb-false v (length each) q in
        let past : length each + (v - length each) ≡ v = omega arith in
        get_or-take 255 (each ++ replicate 255 0) v 0 h
        ∙ ap (λ i. get_or (each ++ replicate 255 0) i 0) (sym past)
        ∙ get_or-append-add each (replicate 255 0) (v - length each) 0
        ∙ get_or-replicate 255 (v - length each) 0 0 (omega arith)
        ∙ sym (get_or-eq_default each 0 {n = v} k)
    go false p c q =
        let h = ltb-false v 255 p in
        get_or-eq_default (nodes_array each) 0 {n = v} (rw (length-nodes_array each) h) ∙ sym (get_or-eq_default each 0 {n = v} (omega arith))

-- a row by the table is the row of feeders
pub row_by_table-is : (feeders : Feeders) → length feeders.each ≤ 255 → (row : List ℕ)
    → row_by_table (nodes_array feeders.each) row ≡ feeder_row feeders row
row_by_table-is feeders few row =
    ap (λ (f : ℕ → ℕ). ordered (map f row)) (λ i v. get_d-nodes_array feeders.each few v i)

pub rows_by_table-are : (feeders : Feeders) → length feeders.each ≤ 255 → (rows : List (List ℕ))
    → map (row_by_table (nodes_array feeders.each)) rows ≡ map (feeder_row feeders) rows
rows_by_table-are feeders few rows = ap (λ (f : List ℕ → List ℕ). map f rows) (λ i row. row_by_table-is feeders few row i)

-- how many can fail
pub units_by-is : (kind n r k : ℕ) (feeders : Option Feeders) → FeedersFit kind n r k feeders → units_by n (table_of feeders).number ≡ units_of n feeders
units_by-is kind n r k none f = refl
units_by-is kind n r k (some feeders) f = let above = f.1.above-k in rw (ne_eqb feeders.number 0 (λ none. omega arith)) refl

-- at least r of them, and at most the nodes
pub units-within : (p : Placement) → GoodPlacement p → (p.k < units p) × (p.r ≤ units p) × (units p ≤ p.n)
units-within p good = go p.feeders good.limits.feeders
  where
    go : (feeders : Option Feeders) → FeedersFit p.kind p.n p.r p.k feeders
        → (p.k < units_of p.n feeders) × (p.r ≤ units_of p.n feeders) × (units_of p.n feeders ≤ p.n)
    go none f = (good.limits.order.k-most, good.limits.base.r-nodes, omega arith)
    go (some feeders) f = (f.1.above-k, f.1.least, f.1.most)

-- a row's nodes
pub nodes-below : (n r : ℕ) (row : List ℕ) → Row n r row → All (λ v. v < n) row
nodes-below n r row h =
    all-imp (λ v. T (ltb v n)) (λ v. v < n) (λ v. ltb→lt v n) row
    (every-all (λ v. ltb v n) row (and_right (ascending 0 row) _ h.1))

-- rows within their bytes
pub record UnitsIn (p : Placement) (n : ℕ) (rows : List ℕ) : Type 0 where
  pub number : n ≡ units p
  pub are : rows_at p.r p.b rows ≡ unit_rows p

module _ (bytes : List ℕ) (file : Located Placement) (e : read_placement bytes ≡ accepted file) where
  rows-here : RowsIn bytes file.first file.content
  rows-here = rows_in bytes file e

  -- the rows' bytes are nodes
  pub bytes_below : All (λ v. v < 255) (take (file.content.b * file.content.r) (drop file.first bytes))
  bytes_below =
      let p = file.content in
      let rows = rows_at p.r p.b (drop file.first bytes) in
      let most = rows-here.good.limits.base.n-most in
      let nodes : All (Row p.n p.r) rows = rw rows-here.rows rows-here.good.rows in
      let small = all-imp (Row p.n p.r) (All (λ v. v < 255))
      (λ row h. all-imp (λ v. v < p.n) (λ v. v < 255) (λ v lt. omega arith) row (nodes-below p.n p.r row h)) rows nodes in
      rw (flatten-rows_at p.r p.b (drop file.first bytes)) at (all-flatten (λ v. v < 255) rows small)

  -- no feeders: the rows as they stand
  pub none-of-table : (table_of file.content.feeders).number ≡ 0 → file.content.feeders ≡ none
  none-of-table zero_number = go file.content.feeders refl
    where
      go : (f : Option Feeders) → file.content.feeders ≡ f → file.content.feeders ≡ none
      go none is = is
      go (some feeders) is =
          let limits : FeederLimits file.content.n file.content.r file.content.k feeders =
          (rw is at rows-here.good.limits.feeders).1 in
          let number : feeders.number ≡ 0 = rw is at zero_number in
          absurd (omega (arith, limits.above-k))

  pub plain-units : (table_of file.content.feeders).number ≡ 0 → UnitsIn file.content file.content.n (drop file.first bytes)
  plain-units zero_number =
      let is = none-of-table zero_number in
      record {
        number = rw is refl;
        are = rows-here.rows ∙ rw is refl;
      }

  -- feeders: the rows by the table, whatever follows them
  pub record Fed : Type 0 where
    pub most : (table_of file.content.feeders).number ≤ 255
    pub least : 1 ≤ (table_of file.content.feeders).number
    pub entries : length (table_of file.content.feeders).each ≡ 255
    pub long :
        length (rows_by_table (table_of file.content.feeders).each file.content.r file.content.b (drop file.first bytes))
        ≡ file.content.b * file.content.r
    pub within : (t : List ℕ) → UnitsIn file.content (table_of file.content.feeders).number
        (rows_by_table (table_of file.content.feeders).each file.content.r file.content.b (drop file.first bytes) ++ t)

  pub fed-units : ((table_of file.content.feeders).number ≡ 0 → ⊥) → Fed
  fed-units Some-number = go file.content.feeders refl
    where
      go : (f : Option Feeders) → file.content.feeders ≡ f → Fed
      go none is = absurd (Some-number (rw is refl))
      go (some feeders) is =
          let good = rows-here.good in
          let limits : FeederLimits file.content.n file.content.r file.content.k feeders = (rw is at good.limits.feeders).1 in
          let few = good.limits.base.n-most in
          let above = limits.above-k in
          let most = limits.most in
          let each = limits.node-each in
          let rows : map (row_by_table (nodes_array feeders.each)) (rows_at file.content.r file.content.b (drop file.first bytes)) ≡ unit_rows file.content =
          rw rows-here.rows (rows_by_table-are feeders (omega arith) (all_rows file.content.layers) ∙ sym (feeder-all_rows feeders file.content.layers) ∙ rw is refl) in
          let lengths : All (λ row. length row ≡ file.content.r) (unit_rows file.content) =
          all-imp (Row (units file.content) file.content.r) (λ row. length row ≡ file.content.r) (λ row h. h.0) (unit_rows file.content) (unit-rows-are file.content good) in
          let count : length (unit_rows file.content) ≡ file.content.b =
          rw (is, feeder-all_rows feeders file.content.layers) (length-map (all_rows file.content.layers) (feeder_row feeders) ∙ length-all_rows file.content.layers ∙ good.limits.records-all) in
          let entries : (table_of file.content.feeders).each ≡ nodes_array feeders.each = rw is refl in
          record {
            most = rw is (omega arith);
            least = rw is (omega arith);
            entries = ap length entries ∙ length-nodes_array feeders.each;
            long =
                rw (entries, rows)
                (length-flatten file.content.r (unit_rows file.content) lengths ∙ ap (λ c. c * file.content.r) count);
            within = λ t.
                record {
                  number = rw is refl;
                  are =
                      rw (entries, rows)
                      (ap (λ c. rows_at file.content.r c (flatten (unit_rows file.content) ++ t)) (sym count)
                      ∙ rows_at-flatten file.content.r (unit_rows file.content) t lengths);
                };
          }
