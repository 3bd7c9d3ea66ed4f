-- The exported call that writes the certificate line by the call's own contract. Assumes nothing.
use Prim.Native.Nat.{ℕ, ◌≤◌, ◌<◌}
use Rattle.std.specs.Prelude.{Result}
use mathlib.Core.Path.{refl}
use mathlib.Core.List.{List}
use lib.ListN.{length}
use Rattle.refusal.specs.Checked.{Checked}
use Rattle.report.specs.Answers.{reply, reply_outcome, ReplyDone}
use Rattle.exports.specs.Exports.{bad_length, Put}
use Rattle.exports.proofs.Told.{fits-long, fits-short, put-told, short-told}
use Rattle.export_report.specs.Exported.{ReplyExported}
use Rattle.refusal.specs.declared.Refusal.{Refusal}

module _ (wrote : Checked (List ℕ)) (out answer : List ℕ) where
  pub reply-told : (out-left answer-left : List ℕ) (given : ℕ) (w : Result ℕ Refusal) → 2 ≤ length answer
      → ReplyDone wrote out out-left w → Put (reply_outcome w) answer answer-left given
      → ReplyExported wrote out out-left answer answer-left given
  reply-told out-left answer-left given w long done put =
      record {
        told = put-told reply_outcome w (reply wrote) 2 answer answer-left given long done.answer put;
        output-after = rw (fits-long 2 answer long) done.output-after;
      }

  pub reply-short : length answer < 2 → ReplyExported wrote out out answer answer bad_length
  reply-short short =
      record {
        told = short-told (reply_outcome (reply wrote)) 2 answer short;
        output-after = rw (fits-short 2 answer short) refl;
      }
