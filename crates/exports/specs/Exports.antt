-- The calls for C and Rust: an answer as 64-bit numbers in a lent slice, and what is returned. Assumes nothing.
use Rattle.std.specs.Prelude.{ℕ, ◌≡◌, Bool, true, false, cond, List, [], ◌∷◌, length, leb}
use Rattle.lists.specs.Lists.{over_start}
use Rattle.refusal.specs.declared.Refusal.TheVariants.{ShortOutput}
use Rattle.refusal.specs.Refusals.{Outcome, result, refusal}
use Rattle.refusal.specs.Checked.{Checked, refused, written, writing, writing_outcome}

-- an answer as numbers: 0 and the values of a result in the documents' order, or a refusal's number and place
abbrev pub numbers : Outcome → List ℕ
numbers (result values) = 0 ∷ values
numbers (refusal number place) = number ∷ place ∷ []

-- what a call returns: 0 for a result, else the refusal's number
abbrev pub status : Outcome → ℕ
status (result values) = 0
status (refusal number place) = number

-- what it returns where a lent slice has not the length that the call states: no refusal's number
abbrev pub bad_length : ℕ
bad_length = 255

-- the answer slice has room for as many numbers as the call may need
abbrev pub fits : (needed : ℕ) (answer : List ℕ) → Bool
fits needed answer = leb needed (length answer)

-- "A slice that is too short for the answer is itself refused and nothing is touched": where the lengths are not as stated, the other
-- slices are left as after any refusal
abbrev pub lend : {A : Type 0} (stated : Bool) → Checked A → Checked A
lend true gave = gave
lend false gave = refused (ShortOutput 0)

-- what a call puts at the start of an answer slice that is long enough, and returns
pub record Put (said : Outcome) (answer answer-left : List ℕ) (given : ℕ) : Type 0 where
  pub answer-after : answer-left ≡ over_start (numbers said) answer
  pub returned : given ≡ status said

-- the same for slices of any lengths, where `stated` says whether they are as the call states
pub record Told (stated : Bool) (said : Outcome) (answer answer-left : List ℕ) (given : ℕ) : Type 0 where
  pub answer-after : answer-left ≡ cond stated (over_start (numbers said) answer) answer
  pub returned : given ≡ cond stated (status said) bad_length

-- what a call that only writes gives, and leaves in the slices that it was lent: two numbers are asked of the answer slice, 0 and how
-- many bytes or entries were written
pub record WritingExported (wrote : Checked (List ℕ)) (out out-left answer answer-left : List ℕ) (given : ℕ) : Type 0 where
  pub told : Told (fits 2 answer) (writing_outcome (writing wrote)) answer answer-left given
  pub output-after : out-left ≡ written (lend (fits 2 answer) wrote) out
