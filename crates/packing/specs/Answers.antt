-- The first row that a test finds as a value of the code's enum. Assumes nothing.
use Rattle.std.specs.Prelude.{ℕ, Option as Given, Some, None}
use Rattle.std.proofs.Math.Option.{Option, none, some}
use Rattle.packing.specs.declared.Record.{Record}

abbrev pub row_found : Option ℕ → Given Record
row_found (some i) = Some (record { 0 = i })
row_found none = None
