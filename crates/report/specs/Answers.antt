-- The answers of the replies as values of the code's enums, and what each case says. Assumes nothing.
use Rattle.std.specs.Prelude.{ℕ, ◌≡◌, List, [], ◌∷◌, length, Result, Ok, Err}
use Rattle.refusal.specs.Refusals.{Outcome, result, refusal_outcome}
use Rattle.refusal.specs.Checked.{Checked, accepted, refused, written, writing_outcome}
use Rattle.refusal.specs.declared.Refusal.{Refusal}

abbrev pub reply : Checked (List ℕ) → Result ℕ Refusal
reply (accepted bytes) = Ok (length bytes)
reply (refused e) = Err e

-- a reply's value is the number of bytes
abbrev pub reply_outcome : Result ℕ Refusal → Outcome
reply_outcome = writing_outcome

-- what a call that replies gives, and leaves in the slice that it was lent
pub record ReplyDone (replied : Checked (List ℕ)) (out out-left : List ℕ) (given : Result ℕ Refusal) : Type 0 where
  pub answer : given ≡ reply replied
  pub output-after : out-left ≡ written replied out
