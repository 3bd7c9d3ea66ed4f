-- `feeders_code::list::read_each` meets its contract. The loop's invariant: the feeders read so far, and those that are read from the
-- present place on, are the whole. Assumes nothing.
use Rattle.feeders_code.proofs.list.EachLoop.{EachTurn}
use Rattle.feeders_code.proofs.list.read_each.Given as goal

abbrev pub invariant-loop-i : goal.invariant-loop-i
invariant-loop-i l = EachTurn l.g l.count l.bytes l.at l.each l.next l.i
