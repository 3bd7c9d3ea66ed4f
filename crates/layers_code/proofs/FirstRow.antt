-- The answers of a test over all rows, where the first row that fails it was looked for in the part of the bytes that begins at
-- the first row. Assumes nothing.
use Prim.Native.Nat.{ℕ, ◌+◌, ◌*◌, ◌≤◌}
use Rattle.std.specs.Prelude.{Option, Some, None, Ok, Err}
use native.Mathlib.Nat.{mul-le-mul_right, le_of_lt}
use mathlib.Core.Path.{◌≡◌, sym, ◌∙◌}
use mathlib.Core.Bool.{Bool}
use mathlib.Core.List.{List, []}
use lib.ListN.{drop}
use Rattle.lists.specs.Lists.{first_where}
use Rattle.lists.proofs.Finds.{some-first_where}
use Rattle.refusal.specs.declared.Refusal.{Refusal}
use Rattle.refusal.specs.Checked.{verdict}
use Rattle.packing.specs.Rows.{rows_at}
use Rattle.packing.specs.Answers.{row_found}
use Rattle.packing.specs.declared.Record.{Record}
use Rattle.packing.proofs.RowsAt.{length-rows_at}
use Rattle.packing.proofs.Found.{row_found-at, row_found-nothing}
use Rattle.layers.specs.Layers.{refuse_row}

module _ (refusal : ℕ → Refusal) (f : List ℕ → Bool) (r : ℕ) (s : List ℕ) (at rows : ℕ) (part : List ℕ) (is : part ≡ drop at s)
    (found : Option Record) (are : found ≡ row_found (first_where f (rows_at r rows part))) where
  first : found ≡ row_found (first_where f (rows_at r rows (drop at s)))
  first = rw is at are

  module _ {row : Record} (e : found ≡ Some row) where
    -- the row's start is within the bytes
    pub row-place : row.0 * r ≤ rows * r
    row-place =
        let there = row_found-at (first_where f (rows_at r rows part)) (sym e ∙ are) in
        let within = (some-first_where f (rows_at r rows part) [] row.0 there).within in
        mul-le-mul_right r (le_of_lt (rw (length-rows_at r rows part) at within))

    pub row-refused : Err (refusal (at + row.0 * r))
        ≡ verdict (refuse_row refusal r at (first_where f (rows_at r rows (drop at s))))
    row-refused = rw (row_found-at (first_where f (rows_at r rows (drop at s))) (sym e ∙ first))

  pub no_row : found ≡ None → Ok tt ≡ verdict (refuse_row refusal r at (first_where f (rows_at r rows (drop at s))))
  no_row e = rw (row_found-nothing (first_where f (rows_at r rows (drop at s))) (sym e ∙ first))
