-- A pack as text. Assumes nothing.
use Rattle.std.specs.Prelude.{ℕ, ◌+◌, ◌*◌, ◌≤◌, length, take}
use mathlib.Core.List.{List, [], ◌∷◌, ◌++◌, map, flatten}
use Rattle.refusal.specs.Checked.{map_accepted}
use Rattle.layers.specs.declared.LayerHead.{LayerHead}
use Rattle.layers.specs.declared.Dark.{Dark}
use Rattle.layers.specs.Layers.{Layer, sizes, layers_at}
use Rattle.layers.specs.Answers.{dark_list}
use Rattle.pack.specs.declared.PackHead.{PackHead}
use Rattle.pack.specs.Pack.{Pack, check_pack}
use Rattle.report.specs.Programs.{rest, or_refused_line}
use Rattle.table.specs.declared.Word.{Word}
use Rattle.table.specs.declared.Word.TheVariants.{Table, Out, Mu, Plain}
use Rattle.table.specs.Lines.{letters}

-- a line: its word, each number with a space before it, and a newline
abbrev pub text_line : Word → List ℕ → List ℕ
text_line word numbers = letters word ++ rest numbers

-- the nodes out of service, where there are any
abbrev pub out_text : List ℕ → List ℕ
out_text [] = []
out_text (node ∷ nodes) = text_line Out (node ∷ nodes)

-- a layer: its mu, then a line for each block
abbrev pub layer_text : Layer → List ℕ
layer_text layer = text_line Mu (layer.bound ∷ []) ++ flatten (map (text_line Plain) layer.rows)

-- "prints a pack as such text"
unfoldable pub table_text : Pack → List ℕ
table_text p = text_line Table (p.n ∷ p.r ∷ []) ++ (out_text p.dark ++ flatten (map layer_text p.layers))

-- what the program prints for a pack's bytes: the text, or the line of the check's refusal
unfoldable pub table_reply : (input : List ℕ) → List ℕ
table_reply input = or_refused_line (map_accepted table_text (check_pack input))

-- the bytes that `table` asks for, whatever the input: every text is shorter
abbrev pub table_most : ℕ
table_most = 90_112

-- the text of a pack, from what its check hands on and the bytes of its blocks
unfoldable pub held_text : PackHead → List LayerHead → Dark → (rows : List ℕ) → List ℕ
held_text head heads dark rows =
    text_line Table (head.n ∷ head.r ∷ [])
    ++ (out_text (dark_list dark) ++ flatten (map layer_text (layers_at head.r (take head.r heads) rows)))

-- what the code that prints it asks
pub record PackHeld (head : PackHead) (heads : List LayerHead) (dark : Dark) (rows : List ℕ) : Type 0 where
  pub r-most : head.r ≤ 5
  pub dark-few : dark.count ≤ 255
  pub rows-there : sizes (take head.r heads) * head.r ≤ length rows
  pub short : length (held_text head heads dark rows) + 128 ≤ table_most
