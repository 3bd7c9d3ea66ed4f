-- The answer of planning as a value of the code's types, what each case says, and what a call leaves. Assumes nothing.
use Rattle.std.specs.Prelude.{◌≡◌, List, [], ◌∷◌, map, ℕ, length, Result, Ok, Err}
use Rattle.refusal.specs.Refusals.{Outcome, result, refusal_outcome}
use Rattle.refusal.specs.Checked.{Checked, accepted, refused}
use Rattle.layers.specs.Answers.{five}
use Rattle.placement.specs.Placement.{Placement, placement_bytes}
use Rattle.planner.specs.Planning.{output_after, WorkAfter}
use Rattle.planner.specs.declared.PlanResult.{PlanResult}
use Rattle.planner.specs.declared.PlannedFile.{PlannedFile}
use Rattle.refusal.specs.declared.Refusal.{Refusal}

-- "The answer is the length, F and the counts."
abbrev pub plan_answer : Checked Placement → PlanResult
plan_answer (accepted p) =
    record {
      answer = Ok (record { length = length (placement_bytes p); figure = p.figure });
      counts = five 0 (map (λ layer. length layer.rows) p.layers);
    }
plan_answer (refused e) = record { answer = Err e; counts = five 0 [] }

-- a plan's values: the length, F and the counts of five layers, 0 from s on
abbrev pub counts_of : Placement → List ℕ
counts_of p = five 0 (map (λ layer. length layer.rows) p.layers)

abbrev pub plan_values : Placement → List ℕ
plan_values p = length (placement_bytes p) ∷ p.figure ∷ counts_of p

-- what the answer says, with the counts beside it
abbrev pub plan_says : Result PlannedFile Refusal → (counts : List ℕ) → Outcome
plan_says (Ok plan) counts = result (plan.length ∷ plan.figure ∷ counts)
plan_says (Err e) counts = refusal_outcome e

abbrev pub plan_outcome : PlanResult → Outcome
plan_outcome given = plan_says given.answer given.counts

-- what a call of planning gives, and leaves in the slices that it was lent
pub record PlanDone (planned : Checked Placement) (work work-left out out-left : List ℕ) (given : PlanResult) : Type 0 where
  pub answer : given ≡ plan_answer planned
  pub work-after : WorkAfter planned work work-left
  pub output-after : out-left ≡ output_after planned out
