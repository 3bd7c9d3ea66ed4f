-- What the check of a placement hands on beside its answer. Assumes nothing.
use Rattle.std.specs.Prelude.{ℕ, ◌≡◌, List, ⊤, Result, Ok, Err}
use Rattle.crowding_code.specs.Load.{first_load}
use Rattle.std.proofs.Math.Option.{none}
use Rattle.refusal.specs.declared.Refusal.{Refusal}
use Rattle.placement.specs.Answers.{table_of}
use Rattle.placement.specs.declared.FeederTable.{FeederTable}
use Rattle.placement.specs.declared.PlacementCheck.{PlacementCheck}
use Rattle.placement.specs.declared.PlacementHead.{PlacementHead}

-- Beside an accepted placement without feeders, the load is that of layer 0: its packing test has counted it.
pub record Handed (s : List ℕ) (check : PlacementCheck) (load : ℕ) : Type 0 where
  pub counted : (head : PlacementHead) → check.answer ≡ Ok head → (head.kind ≡ 6 → ⊥)
      → load ≡ first_load head.r check.layers s head.first

-- the verdict of rows without feeders, with their empty table
abbrev pub unfed : Result ⊤ Refusal → Result FeederTable Refusal
unfed (Ok u) = Ok (table_of none)
unfed (Err e) = Err e
