-- `planner_writer::rows::write_layers` meets its contract. The loop's invariant: the rows of the layers below x stand at the
-- front, and what follows them is as it was. Assumes nothing.
use Rattle.planner.proofs.Layering.{LayersWritten}
use Rattle.planner_writer.proofs.rows.write_layers.Given as goal

abbrev pub invariant-loop-x : goal.invariant-loop-x
invariant-loop-x l = LayersWritten l.r l.s l.layers l.heads l.blocks l.initial.out l.out l.to l.from l.x
