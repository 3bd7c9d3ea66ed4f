-- `dark_code::list::read_nodes` meets its contract. The loop's invariant: the nodes read so far, in front of what is read from
-- the present place on, are the whole. Assumes nothing.
use Rattle.dark_code.proofs.list.NodesLoop.{NodesTurn}
use Rattle.dark_code.proofs.list.read_nodes.Given as goal

abbrev pub invariant-loop-i : goal.invariant-loop-i
invariant-loop-i l = NodesTurn l.n l.count l.bytes l.at l.nodes l.next l.least l.i
