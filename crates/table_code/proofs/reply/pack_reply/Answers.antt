-- `table_code::reply::pack_reply` meets its contract. Assumes nothing.
use Rattle.table.specs.Reading.{pack_reply}
use Rattle.table.specs.Progress.{pack_most}
use Rattle.replies.proofs.Replying.{into-refused, into-written}
use Rattle.table_code.proofs.reply.pack_reply.Goals as goal

pub returns-then-out-lt-PACK_MOST : goal.returns-then-out-lt-PACK_MOST
returns-then-out-lt-PACK_MOST c =
    into-refused pack_most (pack_reply c.args.input.now) c.args.out.now c.if-out-lt-PACK_MOST.true

pub returns : goal.returns
returns c =
    into-written pack_most (pack_reply c.args.input.now) c.args.out.now c.if-out-lt-PACK_MOST.false c.pack_into-length.ensures
