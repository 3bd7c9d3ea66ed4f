-- `rows_text_reader::lines::add_numbers` meets its contract. Assumes nothing.
use Rattle.rows_text_reader.proofs.Content.{by-table, by_out, by_order, plain-none, plain-some}
use Rattle.rows_text_reader.proofs.lines.add_numbers.Goals as goal

pub returns-then-count-eq0 : goal.returns-then-count-eq0
returns-then-count-eq0 c =
    plain-none c.args.p c.args.found.count c.args.numbers.now c.args.rows.now c.args.lines.now c.args.found.line c.args.word c.in-Plain.is c.requires.finds c.if-count-eq0.true

pub returns-in-Rows : goal.returns-in-Rows
returns-in-Rows c =
    by-table c.args.p c.args.found.count c.args.numbers.now c.args.rows.now c.args.lines.now c.args.found.line c.args.word _ _ c.in-Rows.is c.add_table.ensures

pub returns-in-Out : goal.returns-in-Out
returns-in-Out c =
    by_out c.args.p c.args.found.count c.args.numbers.now c.args.rows.now c.args.lines.now c.args.found.line c.args.word _ _ c.in-Out.is c.add_out.ensures

pub returns-in-Order : goal.returns-in-Order
returns-in-Order c =
    by_order c.args.p c.args.found.count c.args.numbers.now c.args.rows.now c.args.lines.now c.args.found.line c.args.word _ _ c.in-Order.is c.add_order.ensures

pub returns-else-count-eq0 : goal.returns-else-count-eq0
returns-else-count-eq0 c =
    plain-some c.args.p c.args.found.count c.args.numbers.now c.args.rows.now c.args.lines.now c.args.found.line c.args.word c.in-Plain.is c.requires.finds c.if-count-eq0.false _ _ _ _ c.add_block.ensures
