-- What the exported call that writes the certificate line gives. Assumes nothing.
use Rattle.std.specs.Prelude.{ℕ, ◌≡◌, List}
use Rattle.refusal.specs.Checked.{Checked, written}
use Rattle.report.specs.Answers.{reply, reply_outcome}
use Rattle.exports.specs.Exports.{Told, fits, lend}

-- 0 and the line's length are asked of the answer slice
pub record ReplyExported (wrote : Checked (List ℕ)) (out out-left answer answer-left : List ℕ) (given : ℕ) : Type 0 where
  pub told : Told (fits 2 answer) (reply_outcome (reply wrote)) answer answer-left given
  pub output-after : out-left ≡ written (lend (fits 2 answer) wrote) out
