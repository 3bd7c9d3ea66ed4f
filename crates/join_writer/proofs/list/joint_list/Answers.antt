-- `join_writer::list::joint_list` meets its contract: the second list is added to the first, and the third to both. Assumes nothing.
use Rattle.join.proofs.Adding.{three-joined}
use Rattle.join_writer.proofs.list.joint_list.Goals as goal

pub returns : goal.returns
returns c =
    three-joined c.requires c.add_nodes-with_second.result c.add_nodes-nodes.result c.add_nodes-with_second.ensures c.add_nodes-nodes.ensures
