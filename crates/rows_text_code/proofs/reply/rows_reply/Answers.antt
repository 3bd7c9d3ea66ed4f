-- `rows_text_code::reply::rows_reply` meets its contract. Assumes nothing.
use Rattle.rows_text.specs.Making.{rows_reply}
use Rattle.table.specs.Progress.{pack_most}
use Rattle.replies.proofs.Replying.{into-refused, into-written}
use Rattle.rows_text_code.proofs.reply.rows_reply.Goals as goal

pub returns-then-out-lt-PACK_MOST : goal.returns-then-out-lt-PACK_MOST
returns-then-out-lt-PACK_MOST c =
    into-refused pack_most (rows_reply c.args.input.now) c.args.out.now c.if-out-lt-PACK_MOST.true

pub returns : goal.returns
returns c =
    into-written pack_most (rows_reply c.args.input.now) c.args.out.now c.if-out-lt-PACK_MOST.false c.rows_into-length.ensures
