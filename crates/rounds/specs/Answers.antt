-- The call's answer as a value of the code's enum, and what each case says. Assumes nothing.
use Rattle.std.specs.Prelude.{ℕ, [], ◌∷◌, Result, Ok, Err}
use Rattle.refusal.specs.Refusals.{Outcome, result, refusal_outcome}
use Rattle.refusal.specs.Checked.{Checked, accepted, refused, writing_outcome}
use Rattle.refusal.specs.declared.Refusal.{Refusal}

abbrev pub rounds_answer : Checked ℕ → Result ℕ Refusal
rounds_answer (accepted number) = Ok number
rounds_answer (refused e) = Err e

-- its value is the number of usable records
abbrev pub rounds_outcome : Result ℕ Refusal → Outcome
rounds_outcome = writing_outcome
