-- A text's lines, the word that each begins with, and its numbers. Assumes nothing.
use Rattle.std.specs.Prelude.{ℕ, zero, suc, ◌+◌, ◌*◌, ◌-◌, Bool, true, false, cond, ◌&&◌, ◌||◌, List, [], ◌∷◌, ◌++◌, length, drop, leb, ltb, eqb}
use Rattle.std.proofs.Math.Option.{Option, none, some}
use Rattle.table.specs.declared.Word.{Word}
use Rattle.table.specs.declared.Word.TheVariants.{Table, Out, Mu, Plain}

-- the first line has this byte before its others
abbrev pub start_line : ℕ → List (List ℕ) → List (List ℕ)
start_line byte [] = (byte ∷ []) ∷ []
start_line byte (line ∷ others) = (byte ∷ line) ∷ others

-- the lines of a text: a newline (10) ends a line, and what follows the last one is a line too
unfoldable pub lines_of : List ℕ → List (List ℕ)
lines_of [] = [] ∷ []
lines_of (byte ∷ text) = cond (eqb byte 10) ([] ∷ lines_of text) (start_line byte (lines_of text))

-- the bytes before the first such byte, all where there is none
unfoldable pub before : (byte : ℕ) → List ℕ → List ℕ
before byte [] = []
before byte (b ∷ bytes) = cond (eqb b byte) [] (b ∷ before byte bytes)

-- "comments after #" (35)
abbrev pub uncommented : List ℕ → List ℕ
uncommented line = before 35 line

-- the line begins with these bytes
unfoldable pub begins : (word line : List ℕ) → Bool
begins [] line = true
begins (w ∷ word) [] = false
begins (w ∷ word) (b ∷ line) = eqb w b && begins word line

-- `table`, `out`, `mu`
abbrev pub letters : Word → List ℕ
letters Table = 116 ∷ 97 ∷ 98 ∷ 108 ∷ 101 ∷ []
letters Out = 111 ∷ 117 ∷ 116 ∷ []
letters Mu = 109 ∷ 117 ∷ []
letters Plain = []

-- the word that a line begins with
unfoldable pub word_of : List ℕ → Word
word_of line =
    cond (begins (letters Table) line) Table
    (cond (begins (letters Out) line) Out
    (cond (begins (letters Mu) line) Mu Plain))

-- `0` to `9`
abbrev pub is_digit : ℕ → Bool
is_digit byte = leb 48 byte && leb byte 57

-- a space, a tab, and the carriage return that some systems put before a newline
abbrev pub is_blank : ℕ → Bool
is_blank byte = eqb byte 32 || (eqb byte 9 || eqb byte 13)

-- a number that ends, after those before it; nothing where it has no digit
abbrev pub ended : (digits value : ℕ) → List ℕ → List ℕ
ended zero value numbers = numbers
ended (suc digits) value numbers = numbers ++ (value ∷ [])

-- decimal numbers with blanks between them, after `numbers`, and so many digits of one that make `value`: at most 255 numbers of at
-- most eight digits. None where a byte is neither digit nor blank.
unfoldable pub read_numbers : List ℕ → (digits value : ℕ) (numbers : List ℕ) → Option (List ℕ)
read_numbers [] digits value numbers = some (ended digits value numbers)
read_numbers (byte ∷ line) digits value numbers =
    cond (is_blank byte) (read_numbers line 0 0 (ended digits value numbers))
    (cond (is_digit byte && (ltb digits 8 && ltb (length numbers) 255))
    (read_numbers line (suc digits) (value * 10 + (byte - 48)) numbers)
    none)

-- the numbers of a line after its word
abbrev pub numbers_after : Word → List ℕ → Option (List ℕ)
numbers_after word line = read_numbers (drop (length (letters word)) line) 0 0 []
