-- `pack_main::reply` meets its contract: slices of these lengths are long enough, so the reply is written. Assumes nothing.
use Rattle.report.proofs.Replies.{reply-written, reply-not-refused}
use Rattle.table.specs.Reading.{pack_reply}
use Rattle.table.specs.Progress.{pack_most}
use Rattle.replies.proofs.Replying.{into-enough}
use Rattle.pack_main.proofs.reply.Goals as goal

pub returns-in_default : goal.returns-in_default
returns-in_default c = absurd (reply-not-refused _ c.pack_reply.ensures (into-enough pack_most (pack_reply c.args.input.now) _ c.requires) c.in_default.is)

pub returns : goal.returns
returns c = reply-written _ c.pack_reply.ensures (into-enough pack_most (pack_reply c.args.input.now) _ c.requires) c.in-Ok.is
