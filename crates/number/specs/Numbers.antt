-- Document 01, "Numbers and rows": numbers. Assumes nothing.
use Rattle.std.specs.Prelude.{ℕ, zero, suc, ◌+◌, ◌*◌, ◌-◌, ◌/◌, ◌%◌, ◌≤◌, ◌<◌, ◌≡◌, cond, ◌&&◌, length, get_or, leb, ltb}
use mathlib.Core.List.{List, [], ◌∷◌, ◌++◌, map, flatten}
use Rattle.lists.specs.Lists.{All}
use Rattle.refusal.specs.declared.Refusal.TheVariants.{Ended, Malformed, OutsideLimits, ShortOutput}
use Rattle.refusal.specs.Checked.{Checked, accepted, refused, ◌>>=◌, require}
use Rattle.number.specs.declared.Reading.{Reading}

-- "The largest is 268,435,455."
abbrev pub largest_number : ℕ
largest_number = 268_435_455

-- the elements of a lent slice of bytes
abbrev pub Bytes : List ℕ → Type 0
Bytes s = All (λ byte. byte < 256) s

-- "A number is groups of seven bits, lowest group first; a byte's top bit (128) is set where another group follows":
-- v in as few groups as hold it, at most `more` of them before the last
unfoldable pub groups : ℕ → ℕ → List ℕ
groups zero v = v ∷ []
groups (suc more) v = cond (ltb v 128) (v ∷ []) ((128 + v % 128) ∷ groups more (v / 128))

-- "It has one to four groups": the shortest form
unfoldable pub number_bytes : ℕ → List ℕ
number_bytes v = groups 3 v

-- the bytes are groups of one number, at least one: "a byte's top bit (128) is set where another group follows"
abbrev pub Grouped : List ℕ → Type 0
Grouped [] = ⊥
Grouped (byte ∷ []) = byte < 128
Grouped (byte ∷ next ∷ more) = (128 ≤ byte) × (byte < 256) × Grouped (next ∷ more)

-- what they count up to, "lowest group first": seven bits of each
unfoldable pub count_up : List ℕ → ℕ
count_up [] = 0
count_up (byte ∷ more) = byte % 128 + 128 * count_up more

-- f is a form of v. Request (b): "Reading takes any form of one to four groups, a zero last group included"; so a number has
-- several forms, and a form one number.
pub record Form (v : ℕ) (f : List ℕ) : Type 0 where
  pub grouped : Grouped f
  pub most-four : length f ≤ 4
  pub counts : count_up f ≡ v

-- f is a form of each number in turn
abbrev pub Forms : List ℕ → List ℕ → Type 0
Forms [] f = f ≡ []
Forms (v ∷ vs) f = (g : List ℕ) × (h : List ℕ) × (f ≡ g ++ h) × Form v g × Forms vs h

-- the shortest forms of the numbers one after another
abbrev pub forms_of : List ℕ → List ℕ
forms_of numbers = flatten (map number_bytes numbers)

-- "A number read is either its value with the next place, or a refusal." Reading the number that starts at `start`: its
-- next group is at `at`, `left` more groups may come, that group counts `weight` times, and the groups before it make `sum`.
-- Refusal 1: "the input ends inside a number". Request (b): "Refusal 2 is left for four bytes that all have the top bit set."
unfoldable pub read_groups : (left : ℕ) → List ℕ → (start at weight sum : ℕ) → Checked Reading
read_groups zero s start at weight sum = refused (Malformed start)
read_groups (suc left) s start at weight sum =
    let byte = get_or s at 0 in
    cond (leb (length s) at)
    (refused (Ended (length s)))
    (cond (leb 128 byte)
    (read_groups left s start (suc at) (weight * 128) (sum + weight * (byte - 128)))
    (accepted (record { value = sum + weight * byte; next = suc at })))

-- "Reading from a place past the end is refusal 1."
unfoldable pub read_number : List ℕ → ℕ → Checked Reading
read_number s at = read_groups 4 s at at 1 0

-- A number of a file's head: "checked in file order, each for 1, 2, then 3 or 4". Refusal 4: "a number outside its limits".
unfoldable pub read_within : (lo hi : ℕ) → List ℕ → ℕ → Checked Reading
read_within lo hi s at = do
  number ← read_number s at
  _ ← require (leb lo number.value && leb number.value hi) (OutsideLimits at)
  accepted number

-- "Writing puts the one shortest form at the lent slice's start"; request (b): "Writers still give the shortest form."
-- "Writing a number checks 4, then 11": what is written, where the slice has room for `room` bytes
unfoldable pub write_number : (room v : ℕ) → Checked (List ℕ)
write_number room v = do
  _ ← require (leb v largest_number) (OutsideLimits 0)
  _ ← require (leb (length (number_bytes v)) room) (ShortOutput (length (number_bytes v)))
  accepted (number_bytes v)
