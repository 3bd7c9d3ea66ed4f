-- The line of `rounds`, from the answer of the call. Assumes nothing.
use Prim.Native.Nat.{ℕ}
use Rattle.std.specs.Prelude.{Result, Ok, Err}
use mathlib.Core.Path.{◌≡◌, sym, ◌∙◌}
use mathlib.Core.List.{List, []}
use Rattle.refusal.specs.declared.Refusal.{Refusal}
use Rattle.refusal.specs.Checked.{Checked, accepted, refused}
use Rattle.rounds.specs.Rounds.{check_rounds}
use Rattle.rounds.specs.Answers.{rounds_answer}
use Rattle.report.specs.Programs.{refused_line}
use Rattle.replies.specs.Lines.{numbers_line}
use Rattle.call_replies.specs.Rounds.{rounds_text}

-- the code's answer says what was found
found : (o : Checked ℕ) {number : ℕ} → Ok number ≡ rounds_answer o → o ≡ accepted number
found (accepted n) e = cc
found (refused why) e = cc

not_found : (o : Checked ℕ) {why : Refusal} → Err why ≡ rounds_answer o → o ≡ refused why
not_found (accepted n) e = cc
not_found (refused other) e = cc

module _ (q : ℕ) (placement : List ℕ) {answer : Result ℕ Refusal} (is : answer ≡ rounds_answer (check_rounds placement q)) where
  pub text-usable : {number : ℕ} → answer ≡ Ok number → rounds_text q placement ≡ numbers_line number []
  unfolding rounds_text
  text-usable e = rw (found (check_rounds placement q) (sym e ∙ is))

  pub text-refused : {why : Refusal} → answer ≡ Err why → rounds_text q placement ≡ refused_line why
  unfolding rounds_text
  text-refused e = rw (not_found (check_rounds placement q) (sym e ∙ is))
