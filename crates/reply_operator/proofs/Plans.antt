-- What `operator` writes, from the answer of the call. Assumes nothing.
use Prim.Native.Nat.{ℕ, ◌≤◌}
use Rattle.std.specs.Prelude.{Ok, Err}
use mathlib.Core.Path.{◌≡◌}
use mathlib.Core.List.{List}
use lib.ListN.{length}
use Rattle.refusal.specs.declared.Refusal.{Refusal}
use Rattle.operators.specs.declared.SharedOrder.{SharedOrder}
use Rattle.planner.specs.Planning.{work_most, output_most}
use Rattle.operators.specs.Operators.{plan_operator}
use Rattle.planner.specs.Answers.{PlanDone}
use Rattle.planner.specs.declared.PlannedFile.{PlannedFile}
use Rattle.planner.specs.declared.PlanResult.{PlanResult}
use Rattle.report.specs.Programs.{refused_line}
use Rattle.report.specs.Replies.{Replied}
use Rattle.call_replies.proofs.Slices.{operator-most}
use Rattle.call_replies.specs.Operators.{operator_text}
use Rattle.replies.proofs.Planned.{planned-text, refused-text}

module _ (pack : List ℕ) (order : SharedOrder) {work worked before between : List ℕ} {result : PlanResult}
    (entries : work_most ≤ length work) (room : output_most ≤ length before)
    (done : PlanDone (plan_operator pack order (length work) (length before)) work worked before between result) where
  pub operator-planned : {made : PlannedFile} → result.answer ≡ Ok made → Replied (operator_text order pack) made.length before between
  unfolding operator_text
  operator-planned a =
      rw (← operator-most pack order (length work) (length before) entries room)
      (planned-text (plan_operator pack order (length work) (length before)) before done.answer done.output-after a)

  pub operator-refused : {why : Refusal} {after : List ℕ} {next : ℕ} → result.answer ≡ Err why
      → Replied (refused_line why) next between after → Replied (operator_text order pack) next before after
  unfolding operator_text
  operator-refused a line =
      rw (← operator-most pack order (length work) (length before) entries room)
      (refused-text (plan_operator pack order (length work) (length before)) before done.answer done.output-after a line)
