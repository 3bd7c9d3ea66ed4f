-- `text_code::given::read_given` meets its contract. The loop's invariant: the numbers that are left to read answer for the whole.
-- Assumes nothing.
use Rattle.text.proofs.Numbers.{GivenTurn}
use Rattle.text_code.proofs.given.read_given.Given as goal

abbrev pub invariant-loop-i : goal.invariant-loop-i
invariant-loop-i l = GivenTurn l.count l.arguments l.input l.i l.at l.values
