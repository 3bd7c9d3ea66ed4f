-- A result or a refusal, and the order of checks: the first refusal met is the answer. Assumes nothing.
use Rattle.std.specs.Prelude.{ℕ, ◌≡◌, Bool, true, false, List, [], ◌∷◌, length, ⊤, Result, Ok, Err}
use Rattle.lists.specs.Lists.{over_start}
use Rattle.refusal.specs.declared.Refusal.{Refusal}
use Rattle.refusal.specs.Refusals.{Outcome, result, refusal_outcome}

-- Demand 1: "finishes with a result or a numbered refusal and its place".
pub data Checked (A : Type 0) : Type 0 where
  accepted : A → Checked A
  refused : Refusal → Checked A

infixl 10 ◌>>=◌
-- `do a ← m; f a`: m is checked first, and what follows only where m is accepted
abbrev pub ◌>>=◌ : {A B : Type 0} → Checked A → (A → Checked B) → Checked B
accepted a >>= f = f a
refused e >>= f = refused e

-- the refusal e unless the test passes
abbrev pub require : Bool → Refusal → Checked Unit
require true e = accepted tt
require false e = refused e

-- f of what is accepted
abbrev pub map_accepted : {A B : Type 0} → (A → B) → Checked A → Checked B
map_accepted f (accepted a) = accepted (f a)
map_accepted f (refused e) = refused e

-- A lent slice after a call that writes at its start: "bytes or entries past the written length don't change"; "A refusal
-- leaves every lent slice unchanged."
abbrev pub written : Checked (List ℕ) → List ℕ → List ℕ
written (accepted bytes) out = over_start bytes out
written (refused e) out = out

-- what a check says in document 01's terms: the values of what is accepted, or the refusal's number and place
abbrev pub outcome : {A : Type 0} → (A → List ℕ) → Checked A → Outcome
outcome values (accepted a) = result (values a)
outcome values (refused e) = refusal_outcome e

-- what a call gives: f of what is accepted, or the refusal
abbrev pub answered : {A B : Type 0} → (A → B) → Checked A → Result B Refusal
answered f (accepted a) = Ok (f a)
answered f (refused e) = Err e

-- what a check says, as a value of the code's type
abbrev pub verdict : {A : Type 0} → Checked A → Result ⊤ Refusal
verdict (accepted a) = Ok tt
verdict (refused e) = Err e

-- a good one has no value of its own
abbrev pub verdict_outcome : Result ⊤ Refusal → Outcome
verdict_outcome (Ok tt) = result []
verdict_outcome (Err e) = refusal_outcome e

-- Document 02, (c): "A call that only writes answers the bytes or entries written", as a value of the code's type
abbrev pub writing : Checked (List ℕ) → Result ℕ Refusal
writing (accepted elements) = Ok (length elements)
writing (refused e) = Err e

-- its value is the number of bytes or entries
abbrev pub writing_outcome : Result ℕ Refusal → Outcome
writing_outcome (Ok n) = result (n ∷ [])
writing_outcome (Err e) = refusal_outcome e

-- what a call that only writes gives, and leaves in the slice that it was lent
pub record WritingDone (wrote : Checked (List ℕ)) (out out-left : List ℕ) (given : Result ℕ Refusal) : Type 0 where
  pub answer : given ≡ writing wrote
  pub output-after : out-left ≡ written wrote out
