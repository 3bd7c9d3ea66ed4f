-- Reading what was printed gives the bare rows back. Assumes nothing.
use Prim.Native.Nat.{ℕ, suc, ◌+◌, ◌≤◌, ◌<◌}
use native.Mathlib.Omega.{arith}
use mathlib.Core.Path.{◌≡◌, refl, ap, subst}
use mathlib.Core.List.{List, [], ◌∷◌, ◌++◌, map, flatten, append_assoc, append-nil}
use lib.ListN.{length}
use borrow.Author.Tests.{lt-ltb, le-leb}
use Rattle.lists.specs.Lists.{All}
use Rattle.refusal.proofs.Checked.{map_accepted-accepted}
use Rattle.layers.specs.Layers.{Located, BaseLimits, list_numbers}
use Rattle.certify.specs.Bare.{Bare, GoodBare, bare_numbers, bare_bytes, read_bare, check_bare}
use Rattle.certify.proofs.Accepted.{written-accepted}
use Rattle.report.specs.Programs.{rest}
use Rattle.table.specs.Told.{Told, good, ◌>>=◌}
use Rattle.table.specs.Lines.{lines_of, begins, read_numbers, before}
use Rattle.table.specs.Reading.{Draft, add_out, add_block, draft_bytes}
use Rattle.table.proofs.Numbers.{Short}
use Rattle.table.proofs.Drafts.{LineReads, draft, head-added, read_out, read-blocks}
use Rattle.rows_text.specs.declared.RowsWord.TheVariants.{Rows, Out, Order, Plain}
use Rattle.rows_text.specs.Words.{word_of}
use Rattle.rows_text.specs.Reading.{start_draft, order_taken, add_order, add_numbers, add_content, add_line, read_lines, read_text}
use Rattle.rows_text.specs.Making.{rows_draft, rows_of}
use Rattle.table.specs.Printing.{out_text}
use Rattle.rows_text_print.specs.Printing.{text_line, rows_text}
use Rattle.rows_text_print.proofs.Printed.{read-line}
use Rattle.rows_text_print.proofs.Service.{some-in-service}

-- printed lines of the list and of rows
out-read : LineReads read_lines (text_line Out) add_out
unfolding add_numbers
out-read line v nodes more d small few = read-line Out (v ∷ nodes) small few line more d

row_read : LineReads read_lines rest add_block
unfolding add_numbers
row_read line v row more d small few = read-line Plain (v ∷ row) small few line more d

module _ (n r : ℕ) (limits : BaseLimits n r) where
  -- the first line
  rows-added : add_numbers 1 Rows (n ∷ r ∷ []) start_draft ≡ good (draft n r 0 0 (7 ∷ n ∷ r ∷ 0 ∷ []) [] [])
  unfolding add_numbers
  rows-added = head-added 7 n r limits

  -- the line of s and k
  order-added : (line s k : ℕ) (numbers : List ℕ) → 1 ≤ s → s ≤ r → s ≤ k → k < n → length numbers < 4 + n
      → add_numbers line Order (s ∷ k ∷ []) (draft n r 0 0 numbers [] [])
      ≡ good (draft n r 1 0 ((numbers ++ (s ∷ k ∷ [])) ++ (0 ∷ [])) [] [])
  unfolding add_numbers add_order order_taken
  order-added line s k numbers least most below high some =
      let r-least = limits.r-least in
      rw (
        lt-ltb 0 r (omega arith),
        lt-ltb (length numbers) (4 + n) some,
        le-leb 1 s least,
        le-leb s r most,
        le-leb s k below,
        lt-ltb k n high,
        append_assoc numbers (s ∷ k ∷ []) (0 ∷ []),
      )

-- after the last row
read-end : (line n r blocks : ℕ) (numbers rows lines : List ℕ) → 1 ≤ r → 1 ≤ blocks
    → read_lines line (lines_of []) (draft n r 1 blocks numbers rows lines) ≡ good (draft n r 1 blocks numbers rows lines)
unfolding lines_of read_lines add_line add_content before word_of begins read_numbers add_numbers
read-end line n r blocks numbers rows lines h some = rw (lt-ltb 0 r h, lt-ltb 0 blocks some)

module _ (q : Bare) (g : GoodBare q) where
  -- the check accepts their bytes, so these are what is made
  rows_made : (d : Draft) → draft_bytes d ≡ bare_bytes q → rows_draft d ≡ good (bare_bytes q)
  unfolding check_bare rows_draft
  rows_made d same =
      let (file, is, content) = map_accepted-accepted (λ (file : Located Bare). file.content) (read_bare (bare_bytes q)) (written-accepted q g) in
      rw (same, is) (ap good same)

  -- reading on from here makes them
  abbrev Makes : Told Draft → Type 0
  Makes t = (t >>= rows_draft) ≡ good (bare_bytes q)

  -- The text of bare rows gives their bytes back: those of their file, each number in its shortest form.
  pub rows-of-text : rows_of (rows_text q) ≡ good (bare_bytes q)
  unfolding rows_of read_text rows_text draft_bytes bare_bytes list_numbers
  rows-of-text =
      let base = g.base in
      let o = g.order in
      let n = q.base.n in
      let r = q.base.r in
      let dark = q.base.dark in
      let s = q.order.s in
      let k = q.order.k in
      let rows = q.rows in
      let head : List ℕ = 7 ∷ n ∷ r ∷ length dark ∷ dark in
      let body = flatten (map (text_line Plain) rows) in
      let count = g.records-all in
      let some = some-in-service n r dark rows base.r-least (omega (arith, o.b-least)) g.rows g.dark.ordered g.in-service in
      let small : All Short (n ∷ r ∷ []) = (omega (arith, base.n-most), (omega (arith, base.r-most), tt)) in
      let small₂ : All Short (s ∷ k ∷ []) = (omega (arith, o.s-most, base.r-most), (omega (arith, o.k-most, base.n-most), tt)) in
      rw (read-line Rows (n ∷ r ∷ []) small (omega arith) 1 (out_text dark ++ (text_line Order (s ∷ k ∷ []) ++ body)) start_draft, rows-added n r base)
      (read_out read_lines n r base out-read Makes 7 dark (text_line Order (s ∷ k ∷ []) ++ body) 2 g.dark.ordered λ line.
      rw (
        read-line Order (s ∷ k ∷ []) small₂ (omega arith) line body (draft n r 0 0 head [] []),
        order-added n r base line s k head o.s-least o.s-most o.k-least (omega (arith, o.k-most)) (omega (arith, some)),
      )
      (subst (λ text. Makes (read_lines (suc line) (lines_of text) (draft n r 1 0 ((head ++ (s ∷ k ∷ [])) ++ (0 ∷ [])) [] [])))
      (append-nil body)
      (read-blocks read_lines n r 1 base.n-most (omega (arith, base.r-least)) base.r-most (omega arith) row_read Makes rows [] (suc line) 0 0 (head ++ (s ∷ k ∷ [])) [] []
      g.rows (omega (arith, count, o.b-most))
      λ line' lines.
      let b : 0 + length rows ≡ q.order.b = omega arith in
      let all : (head ++ (s ∷ k ∷ [])) ++ (q.order.b ∷ []) ≡ bare_numbers q = append_assoc head (s ∷ k ∷ []) (q.order.b ∷ []) in
      rw (
        b,
        all,
        read-end line' n r q.order.b (bare_numbers q) ([] ++ flatten rows) lines (omega (arith, base.r-least)) o.b-least,
      )
      (rows_made (draft n r 1 q.order.b (bare_numbers q) ([] ++ flatten rows) lines) refl))))
