-- What `commit` writes, from the answer of the call. Assumes nothing.
use Prim.Native.Nat.{ℕ, ◌≤◌}
use Rattle.std.specs.Prelude.{Ok, Err}
use mathlib.Core.Path.{◌≡◌}
use mathlib.Core.List.{List}
use lib.ListN.{length}
use Rattle.refusal.specs.declared.Refusal.{Refusal}
use Rattle.placement.specs.declared.Order.{Order}
use Rattle.planner.specs.Planning.{output_most}
use Rattle.planner.specs.declared.PlannedFile.{PlannedFile}
use Rattle.planner.specs.declared.PlanResult.{PlanResult}
use Rattle.commit.specs.Committing.{commit, CommitDone}
use Rattle.report.specs.Programs.{refused_line}
use Rattle.report.specs.Replies.{Replied}
use Rattle.call_replies.specs.Committing.{commit_text}
use Rattle.replies.proofs.Planned.{planned-text, refused-text}
use Rattle.call_replies.proofs.Slices.{commit-most}

module _ (pack : List ℕ) (order : Order) (counts : List ℕ) {before between : List ℕ} {result : PlanResult}
    (room : output_most ≤ length before)
    (done : CommitDone (commit pack order counts (length before)) before between result) where
  pub commit-planned : {made : PlannedFile} → result.answer ≡ Ok made
      → Replied (commit_text order counts pack) made.length before between
  unfolding commit_text
  commit-planned a =
      rw (← commit-most pack order counts (length before) room)
      (planned-text (commit pack order counts (length before)) before done.answer done.output-after a)

  pub commit-refused : {why : Refusal} {after : List ℕ} {next : ℕ} → result.answer ≡ Err why
      → Replied (refused_line why) next between after → Replied (commit_text order counts pack) next before after
  unfolding commit_text
  commit-refused a line =
      rw (← commit-most pack order counts (length before) room)
      (refused-text (commit pack order counts (length before)) before done.answer done.output-after a line)
