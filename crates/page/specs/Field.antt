-- Document 02, (m): a number "right in 4", and reading it back. Characters are ASCII bytes. Assumes nothing.
use Rattle.std.specs.Prelude.{ℕ, ◌+◌, ◌*◌, ◌-◌, cond, ◌&&◌, List, [], ◌∷◌, ◌++◌, length, replicate, leb, eqb}
use Rattle.std.proofs.Math.Option.{Option, none, some}
use Rattle.report.specs.Programs.{decimal}

abbrev pub blank : ℕ
blank = 32

abbrev pub newline : ℕ
newline = 10

-- a digit's character
abbrev pub digit : ℕ → ℕ
digit d = 48 + d

abbrev pub blanks : ℕ → List ℕ
blanks count = replicate count blank

-- "right": the text at the right end of its field, blanks before it
abbrev pub right : (width : ℕ) (text : List ℕ) → List ℕ
right width text = blanks (width - length text) ++ text

-- a number "right in 4"
unfoldable pub field : ℕ → List ℕ
field v = right 4 (decimal v)

-- the number that digits to the end make, v before them; none where another character stands there
unfoldable pub read_digits : (v : ℕ) → List ℕ → Option ℕ
read_digits v [] = some v
read_digits v (c ∷ text) = cond (leb 48 c && leb c 57) (read_digits (10 * v + (c - 48)) text) none

-- a number's decimal form: digits to the end, the first no zero unless it is the only one
unfoldable pub read_form : (c : ℕ) (text : List ℕ) → Option ℕ
read_form c [] = read_digits 0 (c ∷ [])
read_form c (d ∷ text) = cond (eqb c (digit 0)) none (read_digits 0 (c ∷ d ∷ text))

-- the number that stands right in a field: blanks, then its decimal form to the end; none else
unfoldable pub read_field : List ℕ → Option ℕ
read_field [] = none
read_field (c ∷ text) = cond (eqb c blank) (read_field text) (read_form c text)
