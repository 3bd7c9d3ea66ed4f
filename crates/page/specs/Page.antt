-- Document 02, (m): "The cabinet page". Assumes nothing.
use Rattle.std.specs.Prelude.{ℕ, suc, ◌+◌, ◌*◌, ◌-◌, ◌≤◌, ◌<◌, ◌≡◌, cond, length, take, get_or, leb, ltb}
use mathlib.Core.List.{List, [], ◌∷◌, ◌++◌, map, flatten}
use Rattle.lists.specs.Lists.{All, up_to}
use Rattle.refusal.specs.declared.Refusal.TheVariants.{ShortOutput}
use Rattle.refusal.specs.Checked.{Checked, accepted, ◌>>=◌, require}
use Rattle.layers.specs.Layers.{Layer, blocks_at, all_rows, heads_of, sizes}
use Rattle.layers.specs.declared.LayerHead.{LayerHead}
use Rattle.placement.specs.Placement.{Placement, check_placement}
use Rattle.page.specs.Field.{blank, newline, digit, blanks, field}

-- field j of a row: its "node numbers right, unused fields blank"
unfoldable pub node_field : (row : List ℕ) (j : ℕ) → List ℕ
node_field row j = cond (ltb j (length row)) (field (get_or row j 0)) (blanks 4)

-- "five fields of 4"
abbrev pub node_fields : (row : List ℕ) → List ℕ
node_fields row = flatten (map (node_field row) (up_to 5))

-- "record number right in 4, a space, the layer's digit, then five fields of 4 with the node numbers", "and a newline"
unfoldable pub record_line : (record-number layer : ℕ) (row : List ℕ) → List ℕ
record_line i x row = field i ++ (blank ∷ digit x ∷ node_fields row) ++ (newline ∷ [])

-- `kept `
abbrev pub kept_word : List ℕ
kept_word = 107 ∷ 101 ∷ 112 ∷ 116 ∷ 32 ∷ []

-- ` of `
abbrev pub of_word : List ℕ
of_word = 32 ∷ 111 ∷ 102 ∷ 32 ∷ []

-- "then blanks to 26"
abbrev pub padded : (text : List ℕ) → List ℕ
padded text = text ++ blanks (26 - length text)

-- "The last line is `kept `, the figure right in 4, ` of `, b right in 4, then blanks to 26"
unfoldable pub last_line : (figure b : ℕ) → List ℕ
last_line figure b = padded (kept_word ++ field figure ++ of_word ++ field b) ++ (newline ∷ [])

-- the layer of record i, of the layers from x on: the one among whose c rows it is, "layer by layer"
unfoldable pub layer_of : (x : ℕ) → List LayerHead → (i : ℕ) → ℕ
layer_of x [] i = x
layer_of x (head ∷ heads) i = cond (ltb i head.size) x (layer_of (suc x) heads (i - head.size))

-- record i stands in layer x: it comes after the rows of the layers before, and is a row of that layer
pub record InLayer (layers : List Layer) (i x : ℕ) : Type 0 where
  pub there : x < length layers
  pub row : ℕ
  pub counted : i ≡ sizes (heads_of (take x layers)) + row
  pub inside : row < length (blocks_at layers x).rows
  pub same : get_or (all_rows layers) i [] ≡ get_or (blocks_at layers x).rows row []

-- "One line a record": that of record i, "numbered from 0 in the order of their rows"
abbrev pub line_of : Placement → (i : ℕ) → List ℕ
line_of p i = record_line i (layer_of 0 (heads_of p.layers) i) (get_or (all_rows p.layers) i [])

-- the page: the records' lines, and the last
unfoldable pub page_of : Placement → List ℕ
page_of p = flatten (map (line_of p) (up_to p.b)) ++ last_line p.figure p.b

-- "the total length is 27 × (b+1)"
abbrev pub page_length : (b : ℕ) → ℕ
page_length b = 27 * (b + 1)

-- (c) "every later call on a placement gives the checker's refusals first"; "An output shorter than that is refusal 11.", its
-- place the bytes needed
unfoldable pub check_page : (bytes : List ℕ) (output : ℕ) → Checked (List ℕ)
check_page bytes output = do
  p ← check_placement bytes
  _ ← require (leb (page_length p.b) output) (ShortOutput (page_length p.b))
  accepted (page_of p)

-- "26 characters and a newline": characters that print
pub record Printed (line : List ℕ) : Type 0 where
  pub characters : List ℕ
  pub width : length characters ≡ 26
  pub print : All (λ c. (32 ≤ c) × (c ≤ 126)) characters
  pub ends : line ≡ characters ++ (newline ∷ [])
