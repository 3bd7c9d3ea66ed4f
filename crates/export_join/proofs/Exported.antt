-- The exported calls of joining by the calls' own contracts. Assumes nothing.
use Prim.Native.Nat.{ℕ, ◌≤◌, ◌<◌}
use Rattle.std.specs.Prelude.{Result}
use mathlib.Core.Path.{refl}
use mathlib.Core.List.{List}
use lib.ListN.{length}
use Rattle.refusal.specs.Checked.{Checked}
use Rattle.pack.specs.Pack.{Pack}
use Rattle.join.specs.Answers.{joined, join_outcome, JoinDone}
use Rattle.exports.specs.Exports.{bad_length, Put}
use Rattle.exports.proofs.Told.{fits-long, fits-short, put-told, short-told}
use Rattle.export_join.specs.Exported.{JoinExported}
use Rattle.refusal.specs.declared.Refusal.{Refusal}

module _ (gave : Checked Pack) (out answer : List ℕ) where
  pub join-told : (out-left answer-left : List ℕ) (given : ℕ) (j : Result ℕ Refusal) → 2 ≤ length answer
      → JoinDone gave out out-left j → Put (join_outcome j) answer answer-left given
      → JoinExported gave out out-left answer answer-left given
  join-told out-left answer-left given j long done put =
      record {
        told = put-told join_outcome j (joined gave) 2 answer answer-left given long done.given_is put;
        output-after = rw (fits-long 2 answer long) done.output-after;
      }

  pub join-short : length answer < 2 → JoinExported gave out out answer answer bad_length
  join-short short =
      record {
        told = short-told (join_outcome (joined gave)) 2 answer short;
        output-after = rw (fits-short 2 answer short) refl;
      }
