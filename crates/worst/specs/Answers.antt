-- The answer of the true worst case as a value of the code's enum, and what each case says. Assumes nothing.
use Rattle.std.specs.Prelude.{ℕ, ◌≡◌, List, [], ◌∷◌, Result, Ok, Err}
use Rattle.refusal.specs.Refusals.{Outcome, result, refusal_outcome}
use Rattle.refusal.specs.Checked.{Checked, accepted, refused, map_accepted, written, writing_outcome}
use Rattle.worst.specs.Worst.{Worst}
use Rattle.refusal.specs.declared.Refusal.{Refusal}

abbrev pub worst_answer : Checked Worst → Result ℕ Refusal
worst_answer (accepted worst) = Ok worst.fewest
worst_answer (refused e) = Err e

-- its value is the fewest usable records
abbrev pub worst_outcome : Result ℕ Refusal → Outcome
worst_outcome = writing_outcome

-- what the call gives, and leaves in the slice that it was lent: "The set is written as k bytes."
pub record WorstDone (gave : Checked Worst) (out out-left : List ℕ) (given : Result ℕ Refusal) : Type 0 where
  pub answer : given ≡ worst_answer gave
  pub output-after : out-left ≡ written (map_accepted (λ worst. worst.set) gave) out
