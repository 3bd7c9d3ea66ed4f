-- `listing_main::reply` meets its contract: slices of these lengths are long enough, so the reply is written. Assumes nothing.
use Rattle.report.proofs.Replies.{reply-written, reply-not-refused}
use Rattle.table.specs.Printing.{table_most}
use Rattle.replies.proofs.Replying.{into-enough}
use Rattle.rows_text_print.specs.Printing.{listing_reply}
use Rattle.listing_main.proofs.reply.Goals as goal

pub returns-in_default : goal.returns-in_default
returns-in_default c = absurd (reply-not-refused _ c.listing_reply.ensures (into-enough table_most (listing_reply c.args.input.now) _ c.requires) c.in_default.is)

pub returns : goal.returns
returns c = reply-written _ c.listing_reply.ensures (into-enough table_most (listing_reply c.args.input.now) _ c.requires) c.in-Ok.is
