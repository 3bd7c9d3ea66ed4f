-- `table_printer::reply::table_reply` meets its contract. Assumes nothing.
use Rattle.table.specs.Printing.{table_reply, table_most}
use Rattle.replies.proofs.Replying.{into-refused, into-written}
use Rattle.table_printer.proofs.reply.table_reply.Goals as goal

pub returns-then-out-lt-TABLE_MOST : goal.returns-then-out-lt-TABLE_MOST
returns-then-out-lt-TABLE_MOST c =
    into-refused table_most (table_reply c.args.input.now) c.args.out.now c.if-out-lt-TABLE_MOST.true

pub returns : goal.returns
returns c =
    into-written table_most (table_reply c.args.input.now) c.args.out.now c.if-out-lt-TABLE_MOST.false c.table_line-length.ensures
