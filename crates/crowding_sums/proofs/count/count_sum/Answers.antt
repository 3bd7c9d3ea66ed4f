-- `crowding_sums::count::count_sum` meets its contract. Assumes nothing.
use Prim.Native.Nat.{◌%◌}
use native.Mathlib.Nat.{mod-lt}
use native.Mathlib.Omega.{arith}
use Rattle.crowding_pairs.proofs.Cells.{raised-one}
use Rattle.crowding_sums.proofs.count.count_sum.Goals as goal

pub overflow_add-table : goal.overflow_add-table
overflow_add-table c = record { fits = omega (arith, c.requires.1 (c.args.sum % 65536)) }

pub returns : goal.returns
returns c =
    raised-one c.args.table.now (c.args.sum % 65536) (omega (arith, c.requires.0, mod-lt c.args.sum {m = 65536} (omega arith)))
