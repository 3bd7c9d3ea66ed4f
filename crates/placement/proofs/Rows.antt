-- The rows of an accepted placement in its bytes: b rows of r bytes each, from the first row's place on. Assumes nothing.
use Prim.Native.Nat.{ℕ, ◌+◌, ◌*◌, ◌≤◌}
use native.Mathlib.Omega.{arith}
use mathlib.Core.Path.{◌≡◌, sym, ◌∙◌, ap}
use mathlib.Core.List.{List, ◌++◌, flatten}
use lib.ListN.{length, drop, take-append-drop}
use Rattle.lists.proofs.Alls.{all-imp, length-flatten}
use Rattle.refusal.specs.Checked.{accepted}
use Rattle.packing.specs.Rows.{Row, rows_at}
use Rattle.packing.proofs.RowsAt.{rows_at-flatten}
use Rattle.layers.specs.Layers.{Located, all_rows}
use Rattle.layers.proofs.Lengths.{length-all_rows}
use Rattle.placement.specs.Placement.{Placement, GoodPlacement, read_placement}
use Rattle.placement.proofs.Accepted.{read-of-placement, rows-stand}

-- the placement, the place of its first row, and the rows as they stand from there on
pub record RowsIn (bytes : List ℕ) (first : ℕ) (p : Placement) : Type 0 where
  pub good : GoodPlacement p
  pub ends : first + p.b * p.r ≤ length bytes
  pub rows : rows_at p.r p.b (drop first bytes) ≡ all_rows p.layers

pub rows_in : (bytes : List ℕ) (file : Located Placement) → read_placement bytes ≡ accepted file
    → RowsIn bytes file.first file.content
rows_in bytes file e =
    let p = file.content in
    let all = all_rows p.layers in
    let good = (read-of-placement bytes p file.first e).1 in
    let (fits, rest) = rows-stand bytes file e in
    let lengths = all-imp (Row p.n p.r) (λ row. length row ≡ p.r) (λ row h. h.0) all good.rows in
    let count : length all ≡ p.b = length-all_rows p.layers ∙ good.limits.records-all in
    let flat : length (flatten all) ≡ p.b * p.r = length-flatten p.r all lengths ∙ ap (λ c. c * p.r) count in
    let after = drop (length (flatten all)) (drop file.first bytes) in
    let stands : drop file.first bytes ≡ flatten all ++ after =
    sym (take-append-drop (length (flatten all)) (drop file.first bytes)) ∙ ap (λ l. l ++ after) rest in
    record {
      good = good;
      ends = omega (arith, fits, flat);
      rows =
          ap (rows_at p.r p.b) stands
          ∙ ap (λ c. rows_at p.r c (flatten all ++ after)) (sym count)
          ∙ rows_at-flatten p.r all after lengths;
    }
