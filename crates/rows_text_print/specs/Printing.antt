-- Bare rows as text, and what `listing` prints. Assumes nothing.
use Rattle.std.specs.Prelude.{ℕ}
use mathlib.Core.List.{List, [], ◌∷◌, ◌++◌, map, flatten}
use Rattle.refusal.specs.Checked.{map_accepted}
use Rattle.report.specs.Programs.{rest, or_refused_line}
use Rattle.certify.specs.Bare.{Bare, check_bare}
use Rattle.table.specs.Printing.{out_text}
use Rattle.rows_text.specs.declared.RowsWord.{RowsWord}
use Rattle.rows_text.specs.declared.RowsWord.TheVariants.{Rows, Order, Plain}
use Rattle.rows_text.specs.Words.{letters}

-- a line: its word, each number with a space before it, and a newline
abbrev pub text_line : RowsWord → List ℕ → List ℕ
text_line word numbers = letters word ++ rest numbers

-- "one row a line": n and r, the nodes out of service where there are any, s and k, and the rows
unfoldable pub rows_text : Bare → List ℕ
rows_text q =
    text_line Rows (q.base.n ∷ q.base.r ∷ [])
    ++ (out_text q.base.dark ++ (text_line Order (q.order.s ∷ q.order.k ∷ []) ++ flatten (map (text_line Plain) q.rows)))

-- what the program `listing` prints for the bytes of a file of bare rows: the text, or the line of the check's refusal
unfoldable pub listing_reply : (input : List ℕ) → List ℕ
listing_reply input = or_refused_line (map_accepted rows_text (check_bare input))
