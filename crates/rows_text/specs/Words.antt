-- The word that a line of bare rows as text begins with. Assumes nothing.
use Rattle.std.specs.Prelude.{ℕ, cond, List, [], ◌∷◌, length, drop}
use Rattle.std.proofs.Math.Option.{Option}
use Rattle.table.specs.Lines.{begins, read_numbers}
use Rattle.rows_text.specs.declared.RowsWord.{RowsWord}
use Rattle.rows_text.specs.declared.RowsWord.TheVariants.{Rows, Out, Order, Plain}

-- `rows`, `out`, `order`
abbrev pub letters : RowsWord → List ℕ
letters Rows = 114 ∷ 111 ∷ 119 ∷ 115 ∷ []
letters Out = 111 ∷ 117 ∷ 116 ∷ []
letters Order = 111 ∷ 114 ∷ 100 ∷ 101 ∷ 114 ∷ []
letters Plain = []

-- the word that a line begins with
unfoldable pub word_of : List ℕ → RowsWord
word_of line =
    cond (begins (letters Rows) line) Rows
    (cond (begins (letters Out) line) Out
    (cond (begins (letters Order) line) Order Plain))

-- the numbers of a line after its word
abbrev pub numbers_after : RowsWord → List ℕ → Option (List ℕ)
numbers_after word line = read_numbers (drop (length (letters word)) line) 0 0 []
