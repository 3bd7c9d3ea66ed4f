-- `number_writer::numbers::write_numbers` meets its contract. The loop's invariant: the numbers so far stand at the front, and
-- what follows them is as it was. Assumes nothing.
use Rattle.number_writer.proofs.numbers.Putting.{NumbersWritten}
use Rattle.number_writer.proofs.numbers.write_numbers.Given as goal

abbrev pub invariant-loop-v : goal.invariant-loop-v
invariant-loop-v l = NumbersWritten l.initial.out l.numbers l.out l.at l.v-index
