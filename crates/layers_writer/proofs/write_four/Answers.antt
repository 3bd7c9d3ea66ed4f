-- `layers_writer::write_four` meets its contract: the whole array is lent. Assumes nothing.
use Prim.Native.Nat.{◌-◌}
use native.Mathlib.Omega.{arith}
use mathlib.Core.Path.{◌≡◌}
use lib.ListN.{take, drop}
use lib.Seq.{take_all}
use Rattle.layers_writer.proofs.write_four.Goals as goal

pub write_numbers-requires : goal.write_numbers-requires
write_numbers-requires c = record { all = rw ((let lent-here : take (4 - 0) (drop 0 c.args.numbers) ≡ c.args.numbers = take_all 4 c.args.numbers (omega arith) in lent-here)) c.requires.all; numbers_in_bounds = rw ((let lent-here : take (4 - 0) (drop 0 c.args.numbers) ≡ c.args.numbers = take_all 4 c.args.numbers (omega arith) in lent-here)) c.requires.numbers_in_bounds }

pub returns : goal.returns
returns c = rw ((let lent-here : take (4 - 0) (drop 0 c.args.numbers) ≡ c.args.numbers = take_all 4 c.args.numbers (omega arith) in lent-here)) at c.write_numbers.ensures
