-- `check_main::reply` meets its contract: slices of these lengths are long enough, so the reply is written. Assumes nothing.
use Rattle.report.proofs.Replies.{check_into-enough, reply-written, reply-not-refused}
use Rattle.check_main.proofs.reply.Goals as goal

pub returns-in_default : goal.returns-in_default
returns-in_default c = absurd (reply-not-refused _ c.check_reply.ensures (check_into-enough c.args.input.now _ c.requires) c.in_default.is)

pub returns : goal.returns
returns c = reply-written _ c.check_reply.ensures (check_into-enough c.args.input.now _ c.requires) c.in-Ok.is
