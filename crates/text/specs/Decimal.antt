-- A number that a person types: an argument of one to nine decimal digits. A program's arguments are one text, each argument with
-- a byte 0 after it; no argument has such a byte. Assumes nothing.
use Rattle.std.specs.Prelude.{ℕ, zero, suc, ◌+◌, ◌*◌, ◌-◌, Bool, cond, ◌&&◌, List, length, get_or, leb, ltb, eqb}
use Rattle.refusal.specs.declared.Refusal.TheVariants.{Malformed}
use Rattle.refusal.specs.Checked.{Checked, accepted, refused}
use Rattle.number.specs.declared.Reading.{Reading}

-- `0` to `9`
abbrev pub is_digit : ℕ → Bool
is_digit byte = leb 48 byte && leb byte 57

-- the end of the argument that starts at `start`, after at least one digit: their value, and the place of the next argument. The
-- refusal of one that can't be read is never printed: each program has its own for its numbers.
abbrev pub end_digits : List ℕ → (start at value : ℕ) → Checked Reading
end_digits text start at value =
    cond (ltb start at && (ltb at (length text) && eqb (get_or text at 0) 0))
    (accepted (record { value = value; next = suc at }))
    (refused (Malformed start))

-- its digits from `at` on, at most `left` of them, after digits that make `value`
unfoldable pub read_digits : (left : ℕ) → List ℕ → (start at value : ℕ) → Checked Reading
read_digits zero text start at value = end_digits text start at value
read_digits (suc left) text start at value =
    let byte = get_or text at 0 in
    cond (is_digit byte) (read_digits left text start (suc at) (value * 10 + (byte - 48))) (end_digits text start at value)

-- the number of the argument that starts at `at`: one to nine digits
unfoldable pub read_decimal : List ℕ → ℕ → Checked Reading
read_decimal text at = read_digits 9 text at at 0
