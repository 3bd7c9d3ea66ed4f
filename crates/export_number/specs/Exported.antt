-- What the exported call that writes a number gives. Assumes nothing.
use Rattle.std.specs.Prelude.{ℕ, ◌≡◌, List}
use Rattle.refusal.specs.Checked.{Checked, written}
use Rattle.number.specs.Answers.{number_written, written_outcome}
use Rattle.exports.specs.Exports.{Told, fits, lend}

-- 0 and how many bytes were written
pub record NumberExported (wrote : Checked (List ℕ)) (out out-left answer answer-left : List ℕ) (given : ℕ) : Type 0 where
  pub told : Told (fits 2 answer) (written_outcome (number_written wrote)) answer answer-left given
  pub output-after : out-left ≡ written (lend (fits 2 answer) wrote) out
