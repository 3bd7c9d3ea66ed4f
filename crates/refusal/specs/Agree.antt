-- Two checks that agree: on what is accepted, or on a refusal's number. Assumes nothing.
use Rattle.std.specs.Prelude.{◌≡◌}
use Rattle.refusal.specs.declared.Refusal.{Refusal}
use Rattle.refusal.specs.Refusals.{number_of}
use Rattle.refusal.specs.Checked.{Checked, accepted, refused}

-- both are accepted, and R holds of what they accept; or both are refused, with the same number
pub data Agree {A B : Type 0} (R : A → B → Type 0) : Checked A → Checked B → Type 0 where
  both-accepted : {a : A} {b : B} → R a b → Agree R (accepted a) (accepted b)
  both-refused : {d e : Refusal} → number_of d ≡ number_of e → Agree R (refused d) (refused e)
