-- The exported call that writes a number by the call's own contract. Assumes nothing.
use Prim.Native.Nat.{ℕ, ◌≤◌, ◌<◌}
use Rattle.std.specs.Prelude.{Result}
use mathlib.Core.Path.{◌≡◌, refl}
use mathlib.Core.List.{List}
use lib.ListN.{length}
use Rattle.refusal.specs.Checked.{Checked, written}
use Rattle.number.specs.Answers.{number_written, written_outcome}
use Rattle.exports.specs.Exports.{bad_length, Put}
use Rattle.exports.proofs.Told.{fits-long, fits-short, put-told, short-told}
use Rattle.export_number.specs.Exported.{NumberExported}
use Rattle.refusal.specs.declared.Refusal.{Refusal}

module _ (wrote : Checked (List ℕ)) (out answer : List ℕ) where
  pub number-told : (out-left answer-left : List ℕ) (given : ℕ) (w : Result ℕ Refusal) → 2 ≤ length answer
      → (w ≡ number_written wrote) × (out-left ≡ written wrote out) → Put (written_outcome w) answer answer-left given
      → NumberExported wrote out out-left answer answer-left given
  number-told out-left answer-left given w long done put =
      record {
        told = put-told written_outcome w (number_written wrote) 2 answer answer-left given long done.0 put;
        output-after = rw (fits-long 2 answer long) done.1;
      }

  pub number_short : length answer < 2 → NumberExported wrote out out answer answer bad_length
  number_short short =
      record {
        told = short-told (written_outcome (number_written wrote)) 2 answer short;
        output-after = rw (fits-short 2 answer short) refl;
      }
