-- What the code's answer says of the first row that a test finds. Assumes nothing.
use Prim.Native.Nat.{ℕ}
use Rattle.std.specs.Prelude.{Some, None}
use mathlib.Core.Path.{◌≡◌, refl, ap}
use mathlib.Core.Option.{Option, none, some}
use Rattle.packing.specs.Answers.{row_found}
use Rattle.packing.specs.declared.Record.{Record}

pub row_found-at : (o : Option ℕ) {row : Record} → Some row ≡ row_found o → o ≡ some row.0
row_found-at (some i) {row} e = ap some (let same : i ≡ row.0 = cc in same)
row_found-at none e = cc

pub row_found-nothing : (o : Option ℕ) → None ≡ row_found o → o ≡ none
row_found-nothing (some i) e = cc
row_found-nothing none e = refl
