-- Bare rows as text, read line by line: the lines of a block table but for their words, `order s k` in place of the layers, and rows in
-- place of blocks. Assumes nothing.
use Rattle.std.specs.Prelude.{ℕ, suc, ◌+◌, ◌-◌, Bool, ◌&&◌, List, [], ◌∷◌, ◌++◌, length, get_or, leb, ltb, eqb}
use Rattle.std.proofs.Math.Option.{Option, none, some}
use Rattle.table.specs.Told.{Told, good, bad, ◌>>=◌, unless, unreadable, ends_early, outside}
use Rattle.table.specs.Lines.{lines_of, uncommented}
use Rattle.table.specs.Reading.{Draft, add_table, add_out, add_block}
use Rattle.rows_text.specs.declared.RowsWord.{RowsWord}
use Rattle.rows_text.specs.declared.RowsWord.TheVariants.{Rows, Out, Order, Plain}
use Rattle.rows_text.specs.Words.{word_of, numbers_after}

-- what is made is of kind 7; n and r are 0 before they are read. The draft is a block table's: its head's numbers are 7, n, r, how many
-- nodes are out of service and these, s, k and b; its blocks are the rows, all in one layer, which `order` begins.
abbrev pub start_draft : Draft
start_draft = record { n = 0; r = 0; layers = 0; blocks = 0; numbers = 7 ∷ []; rows = []; lines = [] }

-- "s 1..r; k s..n-1"; and some node is in service, for the head has four numbers before the nodes that are not
unfoldable pub order_taken : (n r numbers s k : ℕ) → Bool
order_taken n r numbers s k = ltb numbers (4 + n) && (leb 1 s && (leb s r && (leb s k && ltb k n)))

-- `order s k`, once: b, the number of rows, is 0 yet
unfoldable pub add_order : (line : ℕ) (numbers : List ℕ) → Draft → Told Draft
add_order line numbers d = do
  _ ← unless (ltb 0 d.r && (eqb d.layers 0 && eqb (length numbers) 2)) (unreadable line)
  _ ← unless (order_taken d.n d.r (length d.numbers) (get_or numbers 0 0) (get_or numbers 1 0)) (outside line)
  good
      (record {
        n = d.n;
        r = d.r;
        layers = 1;
        blocks = d.blocks;
        numbers = d.numbers ++ (numbers ++ (0 ∷ []));
        rows = d.rows;
        lines = d.lines;
      })

-- a line by its word, `rows n r` as `table n r`, a row as a block; one without word and number is skipped
unfoldable pub add_numbers : (line : ℕ) → RowsWord → (numbers : List ℕ) → Draft → Told Draft
add_numbers line Rows numbers d = add_table line numbers d
add_numbers line Out numbers d = add_out line numbers d
add_numbers line Order numbers d = add_order line numbers d
add_numbers line Plain [] d = good d
add_numbers line Plain (n ∷ numbers) d = add_block line (n ∷ numbers) d

abbrev pub add_read : (line : ℕ) → RowsWord → Option (List ℕ) → Draft → Told Draft
add_read line word none d = bad (unreadable line)
add_read line word (some numbers) d = add_numbers line word numbers d

-- a line without its comment
unfoldable pub add_content : (line : ℕ) → List ℕ → Draft → Told Draft
add_content line content d = add_read line (word_of content) (numbers_after (word_of content) content) d

-- a line of the text
unfoldable pub add_line : (line : ℕ) → List ℕ → Draft → Told Draft
add_line line bytes d = add_content line (uncommented bytes) d

-- the lines from this one on, and at the end that there is a row: "b 1..4,096"
unfoldable pub read_lines : (line : ℕ) → List (List ℕ) → Draft → Told Draft
read_lines line [] d = do
  _ ← unless (ltb 0 d.r && ltb 0 d.blocks) (ends_early (line - 1))
  good d
read_lines line (bytes ∷ others) d = do
  d' ← add_line line bytes d
  read_lines (suc line) others d'

unfoldable pub read_text : List ℕ → Told Draft
read_text text = read_lines 1 (lines_of text) start_draft
