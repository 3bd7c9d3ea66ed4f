-- What the exported calls of joining give, and leave in the slices that they were lent. Assumes nothing.
use Rattle.std.specs.Prelude.{ℕ, ◌≡◌, List}
use Rattle.refusal.specs.Checked.{Checked}
use Rattle.pack.specs.Pack.{Pack}
use Rattle.join.specs.Answers.{joined, join_outcome, joined_output}
use Rattle.exports.specs.Exports.{Told, fits, lend}

-- 0 and the joined pack's length are asked of the answer slice
pub record JoinExported (gave : Checked Pack) (out out-left answer answer-left : List ℕ) (given : ℕ) : Type 0 where
  pub told : Told (fits 2 answer) (join_outcome (joined gave)) answer answer-left given
  pub output-after : out-left ≡ joined_output (lend (fits 2 answer) gave) out
