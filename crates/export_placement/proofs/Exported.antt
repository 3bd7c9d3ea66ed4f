-- The exported calls on a placement by the calls' own contracts. Assumes nothing.
use Prim.Native.Nat.{ℕ, ◌≤◌, ◌<◌}
use Rattle.std.specs.Prelude.{Result}
use mathlib.Core.Path.{refl}
use mathlib.Core.List.{List}
use lib.ListN.{length}
use Rattle.refusal.specs.Checked.{Checked}
use Rattle.worst.specs.Worst.{Worst}
use Rattle.worst.specs.Answers.{worst_answer, worst_outcome, WorstDone}
use Rattle.exports.specs.Exports.{bad_length, Put}
use Rattle.exports.proofs.Told.{fits-long, fits-short, put-told, short-told}
use Rattle.export_placement.specs.Exported.{WorstExported}
use Rattle.refusal.specs.declared.Refusal.{Refusal}

pub worst-told : (gave : Checked Worst) (out out-left answer answer-left : List ℕ) (given : ℕ) (w : Result ℕ Refusal) → 2 ≤ length answer
    → WorstDone gave out out-left w → Put (worst_outcome w) answer answer-left given
    → WorstExported gave out out-left answer answer-left given
worst-told gave out out-left answer answer-left given w long done put =
    record {
      told = put-told worst_outcome w (worst_answer gave) 2 answer answer-left given long done.answer put;
      output-after = rw (fits-long 2 answer long) done.output-after;
    }

pub worst-short : (gave : Checked Worst) (out answer : List ℕ) → length answer < 2
    → WorstExported gave out out answer answer bad_length
worst-short gave out answer short =
    record {
      told = short-told (worst_outcome (worst_answer gave)) 2 answer short;
      output-after = rw (fits-short 2 answer short) refl;
    }
