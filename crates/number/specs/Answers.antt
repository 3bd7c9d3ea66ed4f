-- The answers of reading and writing a number as values of the code's enums, and what each case says. Assumes nothing.
use Rattle.std.specs.Prelude.{ℕ, List, [], ◌∷◌, length, Result, Ok, Err}
use Rattle.refusal.specs.declared.Refusal.{Refusal}
use Rattle.refusal.specs.declared.Refusal.TheVariants.{Ended}
use Rattle.refusal.specs.Refusals.{Outcome, result, refusal_outcome}
use Rattle.refusal.specs.Checked.{Checked, accepted, refused, writing_outcome}
use Rattle.number.specs.declared.Reading.{Reading}

abbrev pub number_read : Checked Reading → Result Reading Refusal
number_read (accepted n) = Ok n
number_read (refused e) = Err e

-- a reading's values are the number and the next place
abbrev pub read_outcome : Result Reading Refusal → Outcome
read_outcome (Ok n) = result (n.value ∷ n.next ∷ [])
read_outcome (Err e) = refusal_outcome e

-- the refusal of a number that was not read; the code asks it of no other
abbrev pub refusal_of : Result Reading Refusal → Refusal
refusal_of (Ok n) = Ended n.next
refusal_of (Err e) = e

abbrev pub number_written : Checked (List ℕ) → Result ℕ Refusal
number_written (accepted bytes) = Ok (length bytes)
number_written (refused e) = Err e

-- a writing's value is the number of bytes
abbrev pub written_outcome : Result ℕ Refusal → Outcome
written_outcome = writing_outcome
