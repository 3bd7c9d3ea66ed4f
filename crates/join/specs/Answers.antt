-- The answer of joining as a value of the code's enum, what each case says, and what a call leaves. Assumes nothing.
use Rattle.std.specs.Prelude.{ℕ, ◌≡◌, List, [], ◌∷◌, length, Result, Ok, Err}
use Rattle.refusal.specs.Refusals.{Outcome, result, refusal_outcome}
use Rattle.refusal.specs.Checked.{Checked, accepted, refused, map_accepted, written, writing_outcome}
use Rattle.pack.specs.Pack.{Pack, bytes_of_pack}
use Rattle.refusal.specs.declared.Refusal.{Refusal}

abbrev pub joined : Checked Pack → Result ℕ Refusal
joined (accepted p) = Ok (length (bytes_of_pack p))
joined (refused e) = Err e

-- "A call that only writes answers the bytes .. written."
abbrev pub join_values : Pack → List ℕ
join_values p = length (bytes_of_pack p) ∷ []

abbrev pub join_outcome : Result ℕ Refusal → Outcome
join_outcome = writing_outcome

-- the output slice afterwards
abbrev pub joined_output : Checked Pack → List ℕ → List ℕ
joined_output answer out = written (map_accepted bytes_of_pack answer) out

-- what a call of joining gives, and leaves in the slice that it was lent
pub record JoinDone (answer : Checked Pack) (out out-left : List ℕ) (given : Result ℕ Refusal) : Type 0 where
  pub given_is : given ≡ joined answer
  pub output-after : out-left ≡ joined_output answer out
