-- `number_code::reader::read_number` meets its contract. The loop's invariant: the groups that are left to read answer for the whole
-- number, and what they add fits. The measure is how many groups may come. Assumes nothing.
use Rattle.number_code.proofs.reader.ReadLoop.{ReadTurn}
use Rattle.number_code.proofs.reader.read_number.Given as goal

abbrev pub invariant-loop-left : goal.invariant-loop-left
invariant-loop-left l = ReadTurn l.bytes l.at l.left l.place l.weight l.sum

abbrev pub decreases-loop-left : goal.decreases-loop-left
decreases-loop-left l = l.left
