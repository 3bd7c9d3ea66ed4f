-- `rows_text_printer::listing_reply` meets its contract. Assumes nothing.
use Rattle.table.specs.Printing.{table_most}
use Rattle.replies.proofs.Replying.{into-refused, into-written}
use Rattle.rows_text_print.specs.Printing.{listing_reply}
use Rattle.rows_text_printer.proofs.listing_reply.Goals as goal

pub returns-then-out-lt-TABLE_MOST : goal.returns-then-out-lt-TABLE_MOST
returns-then-out-lt-TABLE_MOST c =
    into-refused table_most (listing_reply c.args.input.now) c.args.out.now c.if-out-lt-TABLE_MOST.true

pub returns : goal.returns
returns c =
    into-written table_most (listing_reply c.args.input.now) c.args.out.now c.if-out-lt-TABLE_MOST.false c.listing_line-length.ensures
