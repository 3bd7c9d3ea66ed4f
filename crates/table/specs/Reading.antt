-- A block table as text becomes a pack. Assumes nothing.
use Rattle.std.specs.Prelude.{ℕ, suc, ◌-◌, ◌/◌, Bool, ◌&&◌, List, [], ◌∷◌, ◌++◌, length, get_or, set, leb, ltb, eqb}
use Rattle.std.proofs.Math.Option.{Option, none, some}
use Rattle.refusal.specs.Refusals.{number_of, place_of}
use Rattle.refusal.specs.Checked.{Checked, accepted, refused}
use Rattle.number.specs.Numbers.{forms_of}
use Rattle.packing.specs.Rows.{is_in_order}
use Rattle.layers.specs.Layers.{Located}
use Rattle.pack.specs.Pack.{Pack, read_pack}
use Rattle.report.specs.Programs.{refused_word, rest}
use Rattle.table.specs.declared.Fault.{Fault}
use Rattle.table.specs.declared.Word.{Word}
use Rattle.table.specs.declared.Word.TheVariants.{Table, Out, Mu, Plain}
use Rattle.table.specs.Told.{Told, good, bad, ◌>>=◌, unless, unreadable, ends_early, outside, bad_block, too_long}
use Rattle.table.specs.Lines.{lines_of, uncommented, word_of, numbers_after}

-- The pack as far as it is read: the numbers of its head (its kind, n, r, how many nodes are out of service and these, mu and m of
-- each layer), its blocks' bytes, and the line of each block.
pub record Draft : Type 0 where
  pub n : ℕ
  pub r : ℕ
  pub layers : ℕ
  pub blocks : ℕ
  pub numbers : List ℕ
  pub rows : List ℕ
  pub lines : List ℕ

-- what is made is of kind 4; n and r are 0 before they are read
abbrev pub start_draft : Draft
start_draft = record { n = 0; r = 0; layers = 0; blocks = 0; numbers = 4 ∷ []; rows = []; lines = [] }

-- "Limits: n 2..255; r 2..5 and at most n"
unfoldable pub head_taken : (n r : ℕ) → Bool
head_taken n r = leb 2 n && (leb n 255 && (leb 2 r && (leb r 5 && leb r n)))

-- `table n r`, once: no node is out of service yet
unfoldable pub add_table : (line : ℕ) (numbers : List ℕ) → Draft → Told Draft
add_table line numbers d = do
  _ ← unless (eqb d.r 0 && eqb (length numbers) 2) (unreadable line)
  _ ← unless (head_taken (get_or numbers 0 0) (get_or numbers 1 0)) (outside line)
  good
      (record {
        n = get_or numbers 0 0;
        r = get_or numbers 1 0;
        layers = d.layers;
        blocks = d.blocks;
        numbers = d.numbers ++ (numbers ++ (0 ∷ []));
        rows = d.rows;
        lines = d.lines;
      })

-- `out` and the nodes out of service, where the head has its four first numbers and no other: their count is the fourth
unfoldable pub add_out : (line : ℕ) (numbers : List ℕ) → Draft → Told Draft
add_out line numbers d = do
  _ ← unless (eqb (length d.numbers) 4) (unreadable line)
  _ ← unless (is_in_order d.n numbers) (outside line)
  good
      (record {
        n = d.n;
        r = d.r;
        layers = d.layers;
        blocks = d.blocks;
        numbers = set d.numbers 3 (length numbers) ++ numbers;
        rows = d.rows;
        lines = d.lines;
      })

-- `mu` and its number: the next layer, with no block yet; there are r of them
unfoldable pub add_layer : (line : ℕ) (numbers : List ℕ) → Draft → Told Draft
add_layer line numbers d = do
  _ ← unless (ltb d.layers d.r && eqb (length numbers) 1) (unreadable line)
  _ ← unless (leb 1 (get_or numbers 0 0) && leb (get_or numbers 0 0) 4_096) (outside line)
  good
      (record {
        n = d.n;
        r = d.r;
        layers = suc d.layers;
        blocks = d.blocks;
        numbers = d.numbers ++ (numbers ++ (0 ∷ []));
        rows = d.rows;
        lines = d.lines;
      })

-- the last of the head's numbers, m of the layer, is one more
abbrev pub one_more : List ℕ → List ℕ
one_more numbers = set numbers (length numbers - 1) (suc (get_or numbers (length numbers - 1) 0))

-- a block of r nodes in the present layer
unfoldable pub add_block : (line : ℕ) (numbers : List ℕ) → Draft → Told Draft
add_block line numbers d = do
  _ ← unless (ltb 0 d.layers && eqb (length numbers) d.r) (unreadable line)
  _ ← unless (ltb d.blocks 4_096) (outside line)
  _ ← unless (is_in_order d.n numbers) (bad_block line)
  good
      (record {
        n = d.n;
        r = d.r;
        layers = d.layers;
        blocks = suc d.blocks;
        numbers = one_more d.numbers;
        rows = d.rows ++ numbers;
        lines = d.lines ++ (line ∷ []);
      })

-- a line by its word; one without word and number is skipped
unfoldable pub add_numbers : (line : ℕ) → Word → (numbers : List ℕ) → Draft → Told Draft
add_numbers line Table numbers d = add_table line numbers d
add_numbers line Out numbers d = add_out line numbers d
add_numbers line Mu numbers d = add_layer line numbers d
add_numbers line Plain [] d = good d
add_numbers line Plain (n ∷ numbers) d = add_block line (n ∷ numbers) d

abbrev pub add_read : (line : ℕ) → Word → Option (List ℕ) → Draft → Told Draft
add_read line word none d = bad (unreadable line)
add_read line word (some numbers) d = add_numbers line word numbers d

-- a line without its comment
unfoldable pub add_content : (line : ℕ) → List ℕ → Draft → Told Draft
add_content line content d = add_read line (word_of content) (numbers_after (word_of content) content) d

-- a line of the text
unfoldable pub add_line : (line : ℕ) → List ℕ → Draft → Told Draft
add_line line bytes d = add_content line (uncommented bytes) d

-- the lines from this one on, and at the end that all r layers are there
unfoldable pub read_lines : (line : ℕ) → List (List ℕ) → Draft → Told Draft
read_lines line [] d = do
  _ ← unless (ltb 0 d.r && eqb d.layers d.r) (ends_early (line - 1))
  good d
read_lines line (bytes ∷ others) d = do
  d' ← add_line line bytes d
  read_lines (suc line) others d'

unfoldable pub read_text : List ℕ → Told Draft
read_text text = read_lines 1 (lines_of text) start_draft

-- the pack's bytes: its head's numbers in their shortest forms, then its blocks
unfoldable pub draft_bytes : Draft → List ℕ
draft_bytes d = forms_of d.numbers ++ d.rows

-- the line of the block that has this place in the pack
unfoldable pub line_at : Draft → (place : ℕ) → ℕ
line_at d place = get_or d.lines ((place - length (forms_of d.numbers)) / d.r) 0

-- the pack as its check says: what it refuses is told with the line of its block
abbrev pub pack_if : Draft → Checked (Located Pack) → Told (List ℕ)
pack_if d (accepted file) = good (draft_bytes d)
pack_if d (refused e) = bad (record { number = number_of e; place = line_at d (place_of e) })

unfoldable pub pack_draft : Draft → Told (List ℕ)
pack_draft d = pack_if d (read_pack (draft_bytes d))

-- "turns lines of node numbers .. into a pack"
unfoldable pub pack_of : (text : List ℕ) → Told (List ℕ)
pack_of text = do
  d ← read_text text
  pack_draft d

-- a text of so many bytes is longer than the program holds
abbrev pub text_most : ℕ
text_most = 131_072

unfoldable pub pack_input : (input : List ℕ) → Told (List ℕ)
pack_input input = do
  _ ← unless (ltb (length input) text_most) (too_long text_most)
  pack_of input

-- "the line `refused number place`"
abbrev pub fault_line : Fault → List ℕ
fault_line e = refused_word ++ rest (e.number ∷ e.place ∷ [])

-- what is written, or that line
abbrev pub or_fault_line : Told (List ℕ) → List ℕ
or_fault_line (good bytes) = bytes
or_fault_line (bad e) = fault_line e

-- what the program `pack` writes
unfoldable pub pack_reply : (input : List ℕ) → List ℕ
pack_reply input = or_fault_line (pack_input input)
