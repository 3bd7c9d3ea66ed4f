-- What a program that plans writes, from the answer of the call and what it left in the output. Assumes nothing.
use Prim.Native.Nat.{ℕ}
use Rattle.std.specs.Prelude.{Ok, Err}
use native.Mathlib.Omega.{arith}
use mathlib.Core.Path.{◌≡◌, ap}
use mathlib.Core.List.{List}
use lib.ListN.{length}
use Rattle.refusal.specs.declared.Refusal.{Refusal}
use Rattle.refusal.specs.Checked.{Checked, accepted, refused}
use Rattle.placement.specs.Placement.{Placement, placement_bytes}
use Rattle.planner.specs.Planning.{output_after}
use Rattle.planner.specs.Answers.{plan_answer}
use Rattle.planner.specs.declared.PlannedFile.{PlannedFile}
use Rattle.planner.specs.declared.PlanResult.{PlanResult}
use Rattle.report.specs.Programs.{refused_line}
use Rattle.report.specs.Replies.{Replied}
use Rattle.report.proofs.Replies.{replied-of}
use Rattle.replies.specs.Programs.{planned_reply}

module _ (planned : Checked Placement) (before : List ℕ) {between : List ℕ} {result : PlanResult} (is : result ≡ plan_answer planned)
    (left : between ≡ output_after planned before) where
  answer-is : result.answer ≡ (plan_answer planned).answer
  answer-is = ap (λ r. r.answer) is

  -- a placement stands at the output's start already
  pub planned-text : {made : PlannedFile} → result.answer ≡ Ok made → Replied (planned_reply planned) made.length before between
  unfolding planned_reply
  planned-text {made} a = go planned answer-is left
    where
      go : (o : Checked Placement) → result.answer ≡ (plan_answer o).answer → between ≡ output_after o before
          → Replied (planned_reply o) made.length before between
      go (accepted p) e w =
          let same : made ≡ record { length = length (placement_bytes p); figure = p.figure } = cc in
          replied-of (placement_bytes p) made.length before between (ap (λ m. m.length) same) w
      go (refused why) e w = absurd (let z : ◌≡◌ {A = ℕ} 0 1 = cc in omega arith)

  -- a refusal's line is written into the output as it was
  pub refused-text : {why : Refusal} {after : List ℕ} {next : ℕ} → result.answer ≡ Err why
      → Replied (refused_line why) next between after → Replied (planned_reply planned) next before after
  unfolding planned_reply
  refused-text {why} {after} {next} a line = go planned answer-is left
    where
      go : (o : Checked Placement) → result.answer ≡ (plan_answer o).answer → between ≡ output_after o before
          → Replied (planned_reply o) next before after
      go (accepted p) e w = absurd (let z : ◌≡◌ {A = ℕ} 0 1 = cc in omega arith)
      go (refused other) e w =
          let same : other ≡ why = cc in
          rw (same, ← w) line
