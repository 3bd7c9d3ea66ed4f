-- `join_writer::list::add_nodes` meets its contract. The loop's invariant: the nodes before i stand in the array after the list.
-- Assumes nothing.
use Rattle.join.proofs.Adding.{Adding}
use Rattle.join_writer.proofs.list.add_nodes.Given as goal

abbrev pub invariant-loop-i : goal.invariant-loop-i
invariant-loop-i l = Adding l.initial.whole l.nodes l.at l.before l.count l.whole l.i
