-- What the exported calls on a placement give, where they have more than a length to tell. Assumes nothing.
use Rattle.std.specs.Prelude.{ℕ, ◌≡◌, List}
use Rattle.refusal.specs.Checked.{Checked, map_accepted, written}
use Rattle.worst.specs.Worst.{Worst}
use Rattle.worst.specs.Answers.{worst_answer, worst_outcome}
use Rattle.exports.specs.Exports.{Told, fits, lend}

-- the true worst case: 0 and the fewest usable records, and the first such set at the output's start
pub record WorstExported (gave : Checked Worst) (out out-left answer answer-left : List ℕ) (given : ℕ) : Type 0 where
  pub told : Told (fits 2 answer) (worst_outcome (worst_answer gave)) answer answer-left given
  pub output-after : out-left ≡ written (map_accepted (λ worst. worst.set) (lend (fits 2 answer) gave)) out
