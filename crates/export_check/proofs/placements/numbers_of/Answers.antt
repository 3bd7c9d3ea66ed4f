-- `export_check::placements::numbers_of` meets its contract. Assumes nothing.
use native.Mathlib.Omega.{arith}
use Rattle.layers.proofs.HeadNumbers.{five-numbers}
use Rattle.export_check.proofs.placements.numbers_of.Goals as goal

pub returns : goal.returns
returns c = rw (← five-numbers c.args.l (omega arith))
