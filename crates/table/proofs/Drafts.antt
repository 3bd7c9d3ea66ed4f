-- What printed lines make of a draft, of a table and of bare rows alike: whatever goes through the lines one by one and adds n and r, the
-- nodes out of service and blocks as these do. Assumes nothing.
use Prim.Native.Nat.{ℕ, suc, ◌+◌, ◌-◌, ◌≤◌, ◌<◌}
use native.Mathlib.Omega.{arith}
use mathlib.Core.Path.{◌≡◌, refl}
use mathlib.Core.List.{List, [], ◌∷◌, ◌++◌, map, flatten, append_assoc, append-nil}
use lib.ListN.{length, length-append}
use lib.Seq.{set_at, get_or_at}
use lib.Dec.{T, ltb}
use borrow.Author.Tests.{lt-ltb, le-leb, eq-eqb, ltb-true}
use Rattle.lists.specs.Lists.{All, every}
use Rattle.lists.proofs.Alls.{all-imp, every-all}
use Rattle.lists.proofs.Tests.{true-T, and_right}
use Rattle.packing.specs.Rows.{Row, ascending, is_in_order}
use Rattle.layers.specs.Layers.{BaseLimits}
use Rattle.layers.proofs.Listing.{dark-count}
use Rattle.report.specs.Programs.{rest}
use Rattle.table.specs.declared.Word.TheVariants.{Out}
use Rattle.table.specs.Told.{Told, good, ◌>>=◌}
use Rattle.table.specs.Lines.{lines_of}
use Rattle.table.specs.Reading.{Draft, head_taken, add_table, add_out, add_block, one_more}
use Rattle.table.specs.Printing.{text_line, out_text}
use Rattle.table.proofs.Numbers.{Short}

-- nodes of a row, and of the list, are short numbers
module _ (n : ℕ) (n-most : n ≤ 255) where
  nodes-short : (nodes : List ℕ) → T (is_in_order n nodes) → All Short nodes
  nodes-short nodes h =
      all-imp (λ v. T (ltb v n)) Short (λ v t. omega (arith, ltb-true v n (true-T (ltb v n) t))) nodes
      (every-all (λ v. ltb v n) nodes (and_right (ascending 0 nodes) (every (λ v. ltb v n) nodes) h))

-- a draft of these parts
abbrev pub draft : (n r layers blocks : ℕ) (numbers rows lines : List ℕ) → Draft
draft n r layers blocks numbers rows lines =
    record { n = n; r = r; layers = layers; blocks = blocks; numbers = numbers; rows = rows; lines = lines }

-- a block more in the last layer
pub one-more : (before : List ℕ) (m : ℕ) → one_more (before ++ (m ∷ [])) ≡ before ++ (suc m ∷ [])
one-more before m =
    let len : length (before ++ (m ∷ [])) - 1 ≡ length before = omega (arith, length-append before (m ∷ [])) in
    rw (len, get_or_at before m [] 0 (length before) refl) (set_at before m [] (suc m) (length before) refl)

-- n and r
pub head-added : (kind n r : ℕ) → BaseLimits n r
    → add_table 1 (n ∷ r ∷ []) (draft 0 0 0 0 (kind ∷ []) [] []) ≡ good (draft n r 0 0 (kind ∷ n ∷ r ∷ 0 ∷ []) [] [])
unfolding add_table head_taken
head-added kind n r limits =
    rw (le-leb 2 n limits.n-least, le-leb n 255 limits.n-most, le-leb 2 r limits.r-least, le-leb r 5 limits.r-most, le-leb r n limits.r-nodes)

-- `reads` goes through the lines, and a printed line that is `line` adds its numbers by `add`
abbrev pub LineReads : (reads : ℕ → List (List ℕ) → Draft → Told Draft) (line : List ℕ → List ℕ)
    (add : ℕ → List ℕ → Draft → Told Draft) → Type 0
LineReads reads line add =
    (number v : ℕ) (numbers more : List ℕ) (d : Draft) → All Short (v ∷ numbers) → length (v ∷ numbers) ≤ 255
    → reads number (lines_of (line (v ∷ numbers) ++ more)) d ≡ (add number (v ∷ numbers) d >>= reads (suc number) (lines_of more))

module _ (reads : ℕ → List (List ℕ) → Draft → Told Draft) (n r : ℕ) where
  -- the nodes out of service
  pub read_out : BaseLimits n r → LineReads reads (text_line Out) add_out
      → (P : Told Draft → Type 0) (kind : ℕ) (dark more : List ℕ) (line : ℕ) → T (is_in_order n dark)
      → ((line' : ℕ) → P (reads line' (lines_of more) (draft n r 0 0 (kind ∷ n ∷ r ∷ length dark ∷ dark) [] [])))
      → P (reads line (lines_of (out_text dark ++ more)) (draft n r 0 0 (kind ∷ n ∷ r ∷ 0 ∷ []) [] []))
  unfolding add_out
  read_out limits Line-read P kind [] more line order k = k line
  read_out limits Line-read P kind (v ∷ dark) more line order k =
      let few = dark-count n (v ∷ dark) order in
      rw (
        Line-read line v dark more (draft n r 0 0 (kind ∷ n ∷ r ∷ 0 ∷ []) [] []) (nodes-short n limits.n-most (v ∷ dark) order)
            (omega (arith, limits.n-most, few)),
        true-T (is_in_order n (v ∷ dark)) order,
      )
      (k (suc line))

  module _ (layers : ℕ) (n-most : n ≤ 255) (r-least : 1 ≤ r) (r-most : r ≤ 5) (open-layer : 0 < layers) where
    block-added : (line blocks : ℕ) (numbers rows lines row : List ℕ) → Row n r row → blocks < 4_096
        → add_block line row (draft n r layers blocks numbers rows lines)
        ≡ good (draft n r layers (suc blocks) (one_more numbers) (rows ++ row) (lines ++ (line ∷ [])))
    unfolding add_block
    block-added line blocks numbers rows lines row h few =
        rw (lt-ltb 0 layers open-layer, eq-eqb (length row) r h.0, lt-ltb blocks 4_096 few, true-T (is_in_order n row) h.1)

    -- a layer's blocks
    pub read-blocks : LineReads reads rest add_block
        → (P : Told Draft → Type 0) (block_rows : List (List ℕ)) (more : List ℕ) (line blocks m : ℕ) (numbers rows lines : List ℕ)
        → All (Row n r) block_rows → blocks + length block_rows ≤ 4_096
        → ((line' : ℕ) (lines' : List ℕ)
        → P (reads line' (lines_of more)
        (draft n r layers (blocks + length block_rows) (numbers ++ ((m + length block_rows) ∷ [])) (rows ++ flatten block_rows) lines')))
        → P (reads line (lines_of (flatten (map rest block_rows) ++ more))
        (draft n r layers blocks (numbers ++ (m ∷ [])) rows lines))
    unfolding flatten
    read-blocks Line-read P [] more line blocks m numbers rows lines all few k =
        let b : blocks + 0 ≡ blocks = omega arith in
        let c : m + 0 ≡ m = omega arith in
        rw (b, c, append-nil rows) at (k line lines)
    read-blocks Line-read P ([] ∷ block_rows) more line blocks m numbers rows lines all few k = absurd (let e = all.0.0 in omega arith)
    read-blocks Line-read P ((v ∷ row) ∷ block_rows) more line blocks m numbers rows lines all few k =
        let whole : (rest (v ∷ row) ++ flatten (map rest block_rows)) ++ more ≡ rest (v ∷ row) ++ (flatten (map rest block_rows) ++ more) =
        append_assoc (rest (v ∷ row)) (flatten (map rest block_rows)) more in
        rw (
          whole,
          Line-read line v row (flatten (map rest block_rows) ++ more) (draft n r layers blocks (numbers ++ (m ∷ [])) rows lines)
              (nodes-short n n-most (v ∷ row) all.0.1) (let e = all.0.0 in omega arith),
          block-added line blocks (numbers ++ (m ∷ [])) rows lines (v ∷ row) all.0 (omega arith),
          one-more numbers m,
        )
        (read-blocks Line-read P block_rows more (suc line) (suc blocks) (suc m) numbers (rows ++ (v ∷ row)) (lines ++ (line ∷ [])) all.1 (omega arith)
        λ line' lines'.
        let b : suc blocks + length block_rows ≡ blocks + suc (length block_rows) = omega arith in
        let c : suc m + length block_rows ≡ m + suc (length block_rows) = omega arith in
        rw (b, c, append_assoc rows (v ∷ row) (flatten block_rows)) (k line' lines'))
