-- The numbers that a program takes before its file. "Where a program is given arguments, its numbers are these, in decimal, and
-- standard input is the file alone; with no argument it reads as document 01 says": numbers in the file's own form, then the
-- file. Assumes nothing.
use Rattle.std.specs.Prelude.{ℕ, zero, suc, cond, List, [], ◌∷◌, length, set, replicate, eqb}
use Rattle.refusal.specs.Checked.{Checked, accepted, refused}
use Rattle.number.specs.declared.Reading.{Reading}
use Rattle.number.specs.Numbers.{read_number}
use Rattle.text.specs.declared.GivenEnd.{GivenEnd}
use Rattle.text.specs.declared.GivenEnd.TheVariants.{File, Unread, Extra}
use Rattle.text.specs.declared.Given.{Given}
use Rattle.text.specs.Decimal.{read_decimal}

-- one number: of the arguments where there are any, else of the input
abbrev pub read_given : (arguments input : List ℕ) (at : ℕ) → Checked Reading
read_given [] input at = read_number input at
read_given (byte ∷ arguments) input at = read_decimal (byte ∷ arguments) at

-- after the last number: the file is the rest of the input, or all of it where no argument is left
abbrev pub end_given : (arguments : List ℕ) (at : ℕ) → GivenEnd
end_given [] at = File at
end_given (byte ∷ arguments) at = cond (eqb at (length (byte ∷ arguments))) (File 0) Extra

-- what follows a number that was read, or stands for one that can't be
abbrev pub on_read : Checked Reading → (Reading → Given) → Given → Given
on_read (accepted n) next none = next n
on_read (refused e) next none = none

-- number i and those after it, `left` in all, from `at` on; those before stand in `values`
unfoldable pub take_numbers : (arguments input : List ℕ) (left i at : ℕ) (values : List ℕ) → Given
take_numbers arguments input zero i at values = record { end = end_given arguments at; values = values }
take_numbers arguments input (suc left) i at values =
    on_read (read_given arguments input at)
    (λ n. take_numbers arguments input left (suc i) n.next (set values i n.value))
    (record { end = Unread i; values = values })

-- `count` numbers, at most eight
unfoldable pub given : (count : ℕ) (arguments input : List ℕ) → Given
given count arguments input = take_numbers arguments input count 0 0 (replicate 8 0)
