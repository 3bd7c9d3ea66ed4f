-- `planner_writer::head::own_numbers` meets its contract. Assumes nothing.
use native.Mathlib.Omega.{arith}
use Rattle.layers.proofs.HeadNumbers.{five-numbers}
use Rattle.planner_writer.proofs.head.own_numbers.Goals as goal

pub returns : goal.returns
returns c = rw (← five-numbers c.args.heads (omega arith))
