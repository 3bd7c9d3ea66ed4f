-- `number_writer::writer::write_number` meets its contract. The loop's invariant: the groups of what is left, stored from the present
-- place on, make the whole form at the slice's start. The measure is what is left. Assumes nothing.
use Rattle.number_writer.proofs.writer.WriteLoop.{WriteTurn}
use Rattle.number_writer.proofs.writer.write_number.Given as goal

abbrev pub invariant-loop-rest : goal.invariant-loop-rest
invariant-loop-rest l = WriteTurn l.v l.initial.out l.out l.rest l.i

abbrev pub decreases-loop-rest : goal.decreases-loop-rest
decreases-loop-rest l = l.rest
