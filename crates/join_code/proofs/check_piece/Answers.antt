-- `join_code::check_piece` meets its contract. Assumes nothing.
use Rattle.layers.specs.Answers.{nodes_array}
use Rattle.join_code.proofs.check_piece.Goals as goal

pub returns-then-given : goal.returns-then-given
returns-then-given c = rw c.if-given.true c.check_pack.ensures

pub returns : goal.returns
unfolding nodes_array
returns c = rw c.if-given.false
