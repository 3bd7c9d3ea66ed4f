-- What `check` writes into any slice. Assumes nothing.
use Prim.Native.Nat.{ℕ, ◌≤◌, ◌<◌}
use Rattle.std.specs.Prelude.{Ok, Err}
use mathlib.Core.Path.{refl, ap}
use mathlib.Core.List.{List}
use lib.ListN.{length}
use Rattle.refusal.specs.declared.Refusal.TheVariants.{ShortOutput}
use Rattle.report.specs.Programs.{check_line}
use Rattle.report.specs.Replies.{line_needed, Replied, check_into}
use Rattle.report.specs.Answers.{ReplyDone}
use Rattle.report.proofs.Replies.{check_into-short, check_into-enough}

module _ (input before : List ℕ) where
  pub check-refused : length before < line_needed
      → ReplyDone (check_into input (length before)) before before (Err (ShortOutput line_needed))
  check-refused short =
      rw (check_into-short input (length before) short) (record { answer = refl; output-after = refl })

  pub check-written : {n : ℕ} {after : List ℕ} → line_needed ≤ length before → Replied (check_line input) n before after
      → ReplyDone (check_into input (length before)) before after (Ok n)
  check-written enough r =
      rw (check_into-enough input (length before) enough)
      (record { answer = ap Ok r.answered; output-after = r.written })
