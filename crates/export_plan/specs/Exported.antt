-- What the exported calls of planning give, and leave in the slices that they were lent. Assumes nothing.
use Rattle.std.specs.Prelude.{ℕ, ◌≡◌, List}
use Rattle.refusal.specs.Checked.{Checked}
use Rattle.placement.specs.Placement.{Placement}
use Rattle.placement.specs.declared.Order.{Order}
use Rattle.planner.specs.Planning.{output_after, WorkAfter}
use Rattle.planner.specs.Answers.{plan_answer, plan_outcome}
use Rattle.commit.specs.Asking.{Offer, ask_answer, ask_outcome, AskedWork}
use Rattle.exports.specs.Exports.{Told, fits, lend}

-- planning: 0, the length, F and five counts are asked of the answer slice
pub record PlanExported (planned : Checked Placement) (work work-left out out-left answer answer-left : List ℕ) (given : ℕ)
    : Type 0 where
  pub told : Told (fits 8 answer) (plan_outcome (plan_answer planned)) answer answer-left given
  pub work-after : WorkAfter (lend (fits 8 answer) planned) work work-left
  pub output-after : out-left ≡ output_after (lend (fits 8 answer) planned) out

-- committing, and certifying, which answers as it does: the same, with no working slice
pub record CommitExported (committed : Checked Placement) (out out-left answer answer-left : List ℕ) (given : ℕ) : Type 0 where
  pub told : Told (fits 8 answer) (plan_outcome (plan_answer committed)) answer answer-left given
  pub output-after : out-left ≡ output_after (lend (fits 8 answer) committed) out

-- asking: 0, F, five counts and five copies
pub record AskExported (order : Order) (asked : Checked Offer) (work work-left answer answer-left : List ℕ) (given : ℕ)
    : Type 0 where
  pub told : Told (fits 12 answer) (ask_outcome (ask_answer asked)) answer answer-left given
  pub work-after : AskedWork order (lend (fits 12 answer) asked) work work-left
