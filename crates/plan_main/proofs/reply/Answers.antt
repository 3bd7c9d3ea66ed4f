-- `plan_main::reply` meets its contract: a slice of this length is long enough, so the reply is written. Assumes nothing.
use Rattle.report.proofs.Replies.{reply-written, reply-not-refused}
use Rattle.replies.proofs.Replying.{into-enough}
use Rattle.plan_main.proofs.reply.Goals as goal

pub returns-in_default : goal.returns-in_default
returns-in_default c = absurd (reply-not-refused _ c.plan_reply.ensures (into-enough _ _ _ c.requires) c.in_default.is)

pub returns : goal.returns
returns c = reply-written _ c.plan_reply.ensures (into-enough _ _ _ c.requires) c.in-Ok.is
