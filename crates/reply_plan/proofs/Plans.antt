-- What `plan` writes, from the answer of the call. Assumes nothing.
use Prim.Native.Nat.{ℕ, ◌≤◌}
use Rattle.std.specs.Prelude.{Ok, Err}
use mathlib.Core.Path.{◌≡◌}
use mathlib.Core.List.{List}
use lib.ListN.{length}
use Rattle.refusal.specs.declared.Refusal.{Refusal}
use Rattle.placement.specs.declared.Order.{Order}
use Rattle.planner.specs.Planning.{plan, work_most, output_most}
use Rattle.planner.specs.Answers.{PlanDone}
use Rattle.planner.specs.declared.PlannedFile.{PlannedFile}
use Rattle.planner.specs.declared.PlanResult.{PlanResult}
use Rattle.report.specs.Programs.{refused_line}
use Rattle.report.specs.Replies.{Replied}
use Rattle.replies.specs.Plans.{plan_text}
use Rattle.replies.proofs.Slices.{plan-most}
use Rattle.replies.proofs.Planned.{planned-text, refused-text}

module _ (pack : List ℕ) (order : Order) {work worked before between : List ℕ} {result : PlanResult}
    (entries : work_most ≤ length work) (room : output_most ≤ length before)
    (done : PlanDone (plan pack order (length work) (length before)) work worked before between result) where
  pub plan-planned : {made : PlannedFile} → result.answer ≡ Ok made → Replied (plan_text order pack) made.length before between
  unfolding plan_text
  plan-planned a =
      rw (← plan-most pack order (length work) (length before) entries room)
      (planned-text (plan pack order (length work) (length before)) before done.answer done.output-after a)

  pub plan-refused : {why : Refusal} {after : List ℕ} {next : ℕ} → result.answer ≡ Err why
      → Replied (refused_line why) next between after → Replied (plan_text order pack) next before after
  unfolding plan_text
  plan-refused a line =
      rw (← plan-most pack order (length work) (length before) entries room)
      (refused-text (plan pack order (length work) (length before)) before done.answer done.output-after a line)
