-- The exported calls of planning by the calls' own contracts. Assumes nothing.
use Prim.Native.Nat.{ℕ, ◌≤◌, ◌<◌}
use mathlib.Core.Path.{refl}
use mathlib.Core.List.{List}
use lib.ListN.{length}
use Rattle.refusal.specs.Checked.{Checked}
use Rattle.placement.specs.Placement.{Placement}
use Rattle.placement.specs.declared.Order.{Order}
use Rattle.planner.specs.Answers.{plan_answer, plan_outcome, PlanDone}
use Rattle.planner.specs.declared.PlanResult.{PlanResult}
use Rattle.commit.specs.Asking.{Offer, ask_answer, ask_outcome, AskDone}
use Rattle.commit.specs.Committing.{CommitDone}
use Rattle.commit.specs.declared.AskResult.{AskResult}
use Rattle.exports.specs.Exports.{bad_length, Put}
use Rattle.exports.proofs.Told.{fits-long, fits-short, put-told, short-told}
use Rattle.export_plan.specs.Exported.{PlanExported, CommitExported, AskExported}

module _ (planned : Checked Placement) (work out answer : List ℕ) where
  pub plan-told : (work-left out-left answer-left : List ℕ) (given : ℕ) (p : PlanResult) → 8 ≤ length answer
      → PlanDone planned work work-left out out-left p → Put (plan_outcome p) answer answer-left given
      → PlanExported planned work work-left out out-left answer answer-left given
  plan-told work-left out-left answer-left given p long done put =
      record {
        told = put-told plan_outcome p (plan_answer planned) 8 answer answer-left given long done.answer put;
        work-after = rw (fits-long 8 answer long) done.work-after;
        output-after = rw (fits-long 8 answer long) done.output-after;
      }

  pub plan-short : length answer < 8 → PlanExported planned work work out out answer answer bad_length
  plan-short short =
      record {
        told = short-told (plan_outcome (plan_answer planned)) 8 answer short;
        work-after = rw (fits-short 8 answer short) refl;
        output-after = rw (fits-short 8 answer short) refl;
      }

module _ (committed : Checked Placement) (out answer : List ℕ) where
  pub commit-told : (out-left answer-left : List ℕ) (given : ℕ) (p : PlanResult) → 8 ≤ length answer
      → CommitDone committed out out-left p → Put (plan_outcome p) answer answer-left given
      → CommitExported committed out out-left answer answer-left given
  commit-told out-left answer-left given p long done put =
      record {
        told = put-told plan_outcome p (plan_answer committed) 8 answer answer-left given long done.answer put;
        output-after = rw (fits-long 8 answer long) done.output-after;
      }

  pub commit-short : length answer < 8 → CommitExported committed out out answer answer bad_length
  commit-short short =
      record {
        told = short-told (plan_outcome (plan_answer committed)) 8 answer short;
        output-after = rw (fits-short 8 answer short) refl;
      }

module _ (order : Order) (asked : Checked Offer) (work answer : List ℕ) where
  pub ask-told : (work-left answer-left : List ℕ) (given : ℕ) (a : AskResult) → 12 ≤ length answer
      → AskDone order asked work work-left a → Put (ask_outcome a) answer answer-left given
      → AskExported order asked work work-left answer answer-left given
  ask-told work-left answer-left given a long done put =
      record {
        told = put-told ask_outcome a (ask_answer asked) 12 answer answer-left given long done.answer put;
        work-after = rw (fits-long 12 answer long) done.work-after;
      }

  pub ask-short : length answer < 12 → AskExported order asked work work answer answer bad_length
  ask-short short =
      record {
        told = short-told (ask_outcome (ask_answer asked)) 12 answer short;
        work-after = rw (fits-short 12 answer short) refl;
      }
