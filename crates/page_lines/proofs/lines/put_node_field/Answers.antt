-- `page_lines::lines::put_node_field` meets its contract: a node's field, or a blank one. Assumes nothing.
use Rattle.page.proofs.Writing.{node-stored, blank-stored}
use Rattle.page_lines.proofs.lines.put_node_field.Goals as goal

pub put_node-requires : goal.put_node-requires
put_node-requires c = c.requires

pub returns-then-j-row : goal.returns-then-j-row
returns-then-j-row c =
    node-stored c.args.out.now c.args.row.now c.args.at c.args.j c.if-j-row.true c.put_node.ensures

pub put_blanks-requires : goal.put_blanks-requires
put_blanks-requires c = c.requires.0

pub returns : goal.returns
returns c =
    blank-stored c.args.out.now c.args.row.now c.args.at c.args.j c.if-j-row.false c.put_blanks.ensures
