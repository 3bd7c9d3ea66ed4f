-- The answers of refusals 21 and 7 over rows of feeders in the code's buffer. Assumes nothing.
use Prim.Native.Nat.{ℕ, ◌+◌, ◌*◌, ◌-◌, ◌≤◌, ◌<◌}
use Rattle.std.specs.Prelude.{⊤, Option, Some, None, Result, Err}
use native.Mathlib.Omega.{arith}
use native.Mathlib.Nat.{mul-le-mul_right, le_of_lt}
use mathlib.Core.Path.{◌≡◌, refl, sym, ◌∙◌, ap}
use mathlib.Core.Bool.{not}
use mathlib.Core.List.{List, [], ◌∷◌, ◌++◌, map, flatten}
use mathlib.Core.Option.{none, some}
use lib.ListN.{length, take, drop, length-append, length-drop, length-map}
use lib.Seq.{drop_at, length-take-le}
use lib.Dec.{T}
use Rattle.lists.specs.Lists.{All, first_where}
use Rattle.lists.proofs.Alls.{all-imp, all-flatten, length-flatten}
use Rattle.lists.proofs.Writing.{given_back, take-drop-rest, append-rest}
use Rattle.lists.proofs.Tests.{and_left}
use Rattle.refusal.specs.declared.Refusal.TheVariants.{SharedFeeder}
use Rattle.refusal.specs.declared.Refusal.{Refusal}
use Rattle.refusal.specs.Checked.{verdict}
use Rattle.packing.specs.Rows.{ascending, is_in_order, Row, rows_at, first_bad}
use Rattle.packing.specs.Answers.{row_found}
use Rattle.packing.specs.declared.Record.{Record}
use Rattle.packing.proofs.Test.{good-iff-in-order}
use Rattle.packing.proofs.Found.{row_found-at, row_found-nothing}
use Rattle.packing.proofs.RowsAt.{length-rows_at, rows_at-lengths}
use Rattle.lists.proofs.Finds.{some-first_where}
use Rattle.layers.specs.Layers.{Layer, sizes, all_rows, heads_of, layers_at, check_packings}
use Rattle.layers.specs.Asked.{Ascending}
use Rattle.layers.specs.declared.LayerHead.{LayerHead}
use Rattle.layers.proofs.Layouts.{heads_of-layers_at, flatten-layers_at, layers_at-flatten}
use Rattle.crowding_code.proofs.AllRows.{all_rows-layers_at}
use Rattle.placement.specs.Feeders.{Feeders, feeder_row, unit_layers, shares, check_apart}
use Rattle.placement.specs.Answers.{table_of, row_by_table, rows_by_table}
use Rattle.placement.specs.Asked.{FeedersAsked, FeedersPut, table_feeders, units_checked, feeders_checked}
use Rattle.placement.specs.declared.FeederTable.{FeederTable}
use Rattle.placement.proofs.Ordered.{length-ordered}
use Rattle.placement.proofs.FeederRows.{first-bad-is-sharing, feeder-all_rows, unit-heads}
use Rattle.placement.proofs.TableRows.{rows_by_table-are, nodes-below}
use Rattle.feeders_packings.proofs.TableFeeders.{same-feeders}

-- What the buffer's rows give.
module _ (number r at rows : ℕ) (heads : List LayerHead) (fed part : List ℕ) (is : part ≡ drop at fed) (count : rows ≡ sizes heads)
    (found : Option Record) (are : found ≡ row_found (first_bad number (rows_at r rows part))) where
  looked : found ≡ row_found (first_bad number (all_rows (layers_at r heads (drop at fed))))
  looked = are ∙ rw (is, count, all_rows-layers_at r heads (drop at fed)) refl

  module _ {row : Record} (e : found ≡ Some row) where
    pub shared-place : row.0 * r ≤ rows * r
    unfolding first_bad
    shared-place =
        let there = row_found-at (first_bad number (rows_at r rows part)) (sym e ∙ are) in
        let within = (some-first_where (λ row. not (is_in_order number row)) (rows_at r rows part) [] row.0 there).within in
        mul-le-mul_right r (le_of_lt (rw (length-rows_at r rows part) at within))

    pub shared-refused : Err (SharedFeeder (at + row.0 * r)) ≡ verdict (units_checked number r at (layers_at r heads (drop at fed)))
    unfolding units_checked
    shared-refused = rw (row_found-at (first_bad number (all_rows (layers_at r heads (drop at fed)))) (sym e ∙ looked)) refl

  module _ (e : found ≡ None) where
    none-bad : first_bad number (all_rows (layers_at r heads (drop at fed))) ≡ none
    none-bad = row_found-nothing (first_bad number (all_rows (layers_at r heads (drop at fed)))) (sym e ∙ looked)

    pub units-ascend : Ascending (all_rows (layers_at r heads (drop at fed)))
    units-ascend =
        all-imp (λ row. T (is_in_order number row)) (λ row. T (ascending 0 row)) (λ row t. and_left (ascending 0 row) _ t)
        (all_rows (layers_at r heads (drop at fed))) ((good-iff-in-order number (all_rows (layers_at r heads (drop at fed)))).0 none-bad)

    pub units-left : {answer : Result ⊤ Refusal} → answer ≡ verdict (check_packings r at (layers_at r heads (drop at fed)))
        → answer ≡ verdict (units_checked number r at (layers_at r heads (drop at fed)))
    unfolding units_checked
    units-left a = a ∙ rw none-bad refl

-- What the buffer holds: the rows of feeders of the file's rows.
module _ {r layers : ℕ} {heads : List LayerHead} {table : FeederTable} {s : List ℕ} {at rows : ℕ} (a : FeedersAsked r layers heads table s at)
    (count : rows ≡ sizes (take layers heads)) where
  feeders : Feeders
  feeders = a.fits.feeders

  standing : List Layer
  standing = layers_at r (take layers heads) (drop at s)

  few : length a.fits.feeders.each ≤ 255
  few = omega (arith, a.fits.limits.node-each, a.n-most)

  entries : table.each ≡ (table_of (some a.fits.feeders)).each
  entries = ap (λ t. t.each) a.fits.is

  rows_written : map (row_by_table table.each) (rows_at r rows (drop at s)) ≡ all_rows (unit_layers (some a.fits.feeders) (layers_at r (take layers heads) (drop at s)))
  rows_written =
      rw (entries, count, ← all_rows-layers_at r (take layers heads) (drop at s))
      (rows_by_table-are a.fits.feeders few (all_rows (layers_at r (take layers heads) (drop at s)))
      ∙ sym (feeder-all_rows a.fits.feeders (layers_at r (take layers heads) (drop at s))))

  lengths : All (λ row. length row ≡ r) (all_rows (unit_layers (some a.fits.feeders) (layers_at r (take layers heads) (drop at s))))
  lengths =
      rw (feeder-all_rows a.fits.feeders (layers_at r (take layers heads) (drop at s)))
      (go (all_rows (layers_at r (take layers heads) (drop at s))) a.are)
    where
      go : (all : List (List ℕ)) → All (Row a.n r) all → All (λ row. length row ≡ r) (map (feeder_row a.fits.feeders) all)
      go [] h = tt
      go (row ∷ all) h = (length-ordered _ ∙ length-map row _ ∙ h.0.0, go all h.1)

  -- the layers of the buffer, whatever stands after the rows
  units-stand : (fed t : List ℕ) → drop at fed ≡ flatten (map (row_by_table table.each) (rows_at r rows (drop at s))) ++ t
      → layers_at r (take layers heads) (drop at fed) ≡ unit_layers (some a.fits.feeders) (layers_at r (take layers heads) (drop at s))
  units-stand fed t e =
      let units = unit_layers (some a.fits.feeders) (layers_at r (take layers heads) (drop at s)) in
      let same : heads_of units ≡ take layers heads =
      unit-heads (some a.fits.feeders) (layers_at r (take layers heads) (drop at s)) ∙ heads_of-layers_at r (take layers heads) (drop at s) in
      rw (e, rows_written) (ap (λ h. layers_at r h (flatten (all_rows units) ++ t)) (sym same) ∙ layers_at-flatten r units t lengths)

  pub feeders-checked : (fed t : List ℕ) {answer : Result ⊤ Refusal} → drop at fed ≡ flatten (map (row_by_table table.each) (rows_at r rows (drop at s))) ++ t
      → answer ≡ verdict (units_checked table.number r at (layers_at r (take layers heads) (drop at fed)))
      → answer ≡ verdict (feeders_checked r at (table_feeders table) (layers_at r (take layers heads) (drop at s)))
  unfolding units_checked feeders_checked check_apart
  feeders-checked fed t e is =
      let f = a.fits.feeders in
      let rows_in = layers_at r (take layers heads) (drop at s) in
      let ordered-rows = all-imp (Row a.n r) (λ row. T (is_in_order a.n row)) (λ row h. h.1) (all_rows rows_in) a.are in
      let found : first_bad f.number (all_rows (unit_layers (some f) rows_in)) ≡ first_where (shares f) (all_rows rows_in) =
      rw (feeder-all_rows f rows_in) (first-bad-is-sharing a.n r a.k f a.fits.limits (all_rows rows_in) ordered-rows) in
      let number : table.number ≡ f.number = ap (λ t. t.number) a.fits.is in
      let through : units_checked table.number r at (layers_at r (take layers heads) (drop at fed)) ≡ feeders_checked r at f rows_in =
      rw (units-stand fed t e, number, found) refl in
      is ∙ ap verdict (through ∙ sym (ap (λ t. feeders_checked r at (table_feeders t) rows_in) a.fits.is ∙ same-feeders r at f rows_in few))

  -- the buffer has room for the rows, whose nodes the table has
  pub nodes-below-255 : All (λ v. v < 255) (take (rows * r) (drop at s))
  nodes-below-255 =
      let rows_in = layers_at r (take layers heads) (drop at s) in
      let each = all-imp (Row a.n r) (All (λ v. v < 255))
      (λ row h. all-imp (λ v. v < a.n) (λ v. v < 255) (λ v lt. omega (arith, a.n-most)) row (nodes-below a.n r row h)) (all_rows rows_in) a.are in
      rw (flatten-layers_at r (take layers heads) (drop at s), ← count) at (all-flatten (λ v. v < 255) (all_rows rows_in) each)

-- the rows of feeders have as many bytes as the rows
table-length : (each : List ℕ) (r rows : ℕ) (s : List ℕ) → rows * r ≤ length s → length (rows_by_table each r rows s) ≡ rows * r
table-length each r rows s h =
    length-flatten r (map (row_by_table each) (rows_at r rows s)) (go (rows_at r rows s) (rows_at-lengths r rows s h))
    ∙ ap (λ n. n * r) (length-map (rows_at r rows s) (row_by_table each) ∙ length-rows_at r rows s)
  where
    go : (all : List (List ℕ)) → All (λ row. length row ≡ r) all → All (λ row. length row ≡ r) (map (row_by_table each) all)
    go [] k = tt
    go (row ∷ all) k = (length-ordered _ ∙ length-map row _ ∙ k.0, go all k.1)

-- the buffer, after its part from `at` on was lent
pub put_back : (bytes each l last : List ℕ) (at r rows : ℕ) → at + rows * r ≤ length bytes → at + rows * r ≤ length l
    → last ≡ rows_by_table each r rows (take (length bytes - at) (drop at bytes)) ++ drop (rows * r) (take (length l - at) (drop at l))
    → FeedersPut bytes at r rows each l (given_back l at last)
put_back bytes each l last at r rows inside room is =
    let fed = rows_by_table each r rows (drop at bytes) in
    let told : last ≡ fed ++ drop (rows * r) (drop at l) = is ∙ rw (take-drop-rest bytes at, take-drop-rest l at) refl in
    let size : length (take at l) ≡ at = length-take-le at l (omega arith) in
    let long : length fed ≡ rows * r = table-length each r rows (drop at bytes) (rw length-drop (omega arith)) in
    record {
      after = drop (rows * r) (drop at l);
      stands = ap (drop at) (append-rest l last at) ∙ drop_at (take at l) last at size ∙ told;
      long =
          ap length (append-rest l last at)
          ∙ length-append (take at l) last
          ∙ rw (told, size) (simp (length-append, length-drop) (omega arith));
    }
