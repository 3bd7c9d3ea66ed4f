-- `table_reader::lines::add_numbers` meets its contract. Assumes nothing.
use Rattle.table_reader.proofs.Content.{by-table, by_out, by-mu, plain-none, plain-some}
use Rattle.table_reader.proofs.lines.add_numbers.Goals as goal

pub returns-then-count-eq0 : goal.returns-then-count-eq0
returns-then-count-eq0 c =
    plain-none c.args.p c.args.found.count c.args.numbers.now c.args.rows.now c.args.lines.now c.args.found.line c.args.word c.in-Plain.is c.requires.finds c.if-count-eq0.true

pub returns-in-Table : goal.returns-in-Table
returns-in-Table c =
    by-table c.args.p c.args.found.count c.args.numbers.now c.args.rows.now c.args.lines.now c.args.found.line c.args.word _ _ c.in-Table.is c.add_table.ensures

pub returns-in-Out : goal.returns-in-Out
returns-in-Out c =
    by_out c.args.p c.args.found.count c.args.numbers.now c.args.rows.now c.args.lines.now c.args.found.line c.args.word _ _ c.in-Out.is c.add_out.ensures

pub returns-in-Mu : goal.returns-in-Mu
returns-in-Mu c =
    by-mu c.args.p c.args.found.count c.args.numbers.now c.args.rows.now c.args.lines.now c.args.found.line c.args.word _ _ c.in-Mu.is c.add_layer.ensures

pub returns-else-count-eq0 : goal.returns-else-count-eq0
returns-else-count-eq0 c =
    plain-some c.args.p c.args.found.count c.args.numbers.now c.args.rows.now c.args.lines.now c.args.found.line c.args.word c.in-Plain.is c.requires.finds c.if-count-eq0.false _ _ _ _ c.add_block.ensures
