-- The turns of the loops that put a row's nodes and rows, and the line of the nodes out of service. Assumes nothing.
use Prim.Native.Nat.{ℕ, zero, suc, ◌+◌, ◌*◌, ◌-◌, ◌≤◌, ◌<◌}
use native.Mathlib.Omega.{arith}
use mathlib.Core.Path.{◌≡◌, refl, subst}
use mathlib.Core.List.{List, [], ◌∷◌, ◌++◌, map, flatten}
use lib.ListN.{length, take, drop}
use lib.Seq.{drop-drop}
use Rattle.lists.proofs.Arith.{run-end-le}
use Rattle.packing.specs.Rows.{rows_at}
use Rattle.layers.specs.declared.Dark.{Dark}
use Rattle.layers.specs.Answers.{dark_list}
use Rattle.report.specs.Programs.{rest}
use Rattle.report_lines.specs.Put.{Put}
use Rattle.table.specs.declared.Word.TheVariants.{Out}
use Rattle.table.specs.Printing.{text_line, out_text}
use Rattle.line_printer.proofs.Stored.{Stored, stored-none, stored_next, stored-all}

-- a row's nodes as numbers
pub row-part : (row numbers : List ℕ) → take (length row) numbers ≡ row → take (length row - 0) (drop 0 numbers) ≡ row
row-part row numbers same = let zero : length row - 0 ≡ length row = omega arith in rw zero same

pub row_put : (row numbers : List ℕ) → take (length row) numbers ≡ row → {before after : List ℕ} {at next : ℕ}
    → Put (rest (take (length row - 0) (drop 0 numbers))) before at next after → Put (rest row) before at next after
row_put row numbers same put = rw (row-part row numbers same) at put

-- the line of the nodes out of service
pub out_none : (dark : Dark) → dark.count ≡ 0 → (out : List ℕ) (at : ℕ) → Put (out_text (dark_list dark)) out at at out
out_none dark none out at = rw none (record { ends = omega arith; stored = refl })

pub out_some : (nodes : List ℕ) (count : ℕ) → 0 < count → count ≤ length nodes → out_text (take count nodes) ≡ text_line Out (take count nodes)
out_some nodes zero h w = absurd (omega arith)
out_some [] (suc count) h w = absurd (omega arith)
out_some (n ∷ nodes) (suc count) h w = refl

pub out-put : (nodes : List ℕ) (count : ℕ) → 0 < count → count ≤ length nodes → {before after : List ℕ} {at next : ℕ}
    → Put (text_line Out (take (count - 0) (drop 0 nodes))) before at next after → Put (out_text (take count nodes)) before at next after
out-put nodes count h w put =
    let zero : count - 0 ≡ count = omega arith in
    rw (out_some nodes count h w) (rw zero at put)

-- the text of m rows of r bytes that s begins with
abbrev pub row_lines : (r m : ℕ) → List ℕ → List ℕ
row_lines r m s = flatten (map rest (rows_at r m s))

-- Before each row: those from row j on, which begin at byte `from`, are left.
pub record RowsTurn (rows : List ℕ) (m r : ℕ) (before : List ℕ) (at : ℕ) (after : List ℕ) (place from j : ℕ) : Type 0 where
  pub within : j ≤ m
  pub from_is : from ≡ j * r
  pub stored : Stored (row_lines r m rows) before at (row_lines r (m - j) (drop from rows)) after place

module _ (rows : List ℕ) (m r : ℕ) (before : List ℕ) (at : ℕ) where
  pub rows_none : RowsTurn rows m r before at before at 0 0
  rows_none =
      let e : m - 0 ≡ m = omega arith in
      record { within = omega arith; from_is = omega arith; stored = rw e (stored-none (row_lines r m rows) before at) }

  module _ {after : List ℕ} {place from j : ℕ} (turn : RowsTurn rows m r before at after place from j) where
    pub rows_all : m ≤ j → Put (row_lines r m rows) before at place after
    unfolding rows_at flatten
    rows_all h =
        let e : m - j ≡ 0 = omega arith in
        stored-all (subst (λ n. Stored (row_lines r m rows) before at (row_lines r n (drop from rows)) after place) e turn.stored)

    module _ (more : j < m) where
      -- the row's bytes are there
      pub row_inside : m * r ≤ length rows → from + r ≤ length rows
      row_inside h = omega (arith, run-end-le r more, turn.from_is)

      pub rows_next : {next : ℕ} {after' : List ℕ} → Put (rest (take (from + r - from) (drop from rows))) after place next after'
          → RowsTurn rows m r before at after' next (from + r) (j + 1)
      unfolding rows_at flatten
      rows_next {next} {after'} put =
          let one : m - j ≡ suc (m - (j + 1)) = omega arith in
          let size : from + r - from ≡ r = omega arith in
          let s : Stored (row_lines r m rows) before at (rest (take r (drop from rows)) ++ row_lines r (m - (j + 1)) (drop r (drop from rows))) after place =
          subst (λ n. Stored (row_lines r m rows) before at (row_lines r n (drop from rows)) after place) one turn.stored in
          let p : Put (rest (take r (drop from rows))) after place next after' = rw size at put in
          record {
            within = omega arith;
            from_is = omega (arith, turn.from_is);
            stored = rw (← drop-drop r from rows) (stored_next s p);
          }
