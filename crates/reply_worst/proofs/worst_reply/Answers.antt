-- `reply_worst::worst_reply` meets its contract: too short a slice is refused, and in any other stands the reply. Assumes nothing.
use Rattle.replies.proofs.Replying.{into-refused, into-written}
use Rattle.reply_worst.proofs.worst_reply.Goals as goal

pub returns-then-out-lt-WORST_NEEDED : goal.returns-then-out-lt-WORST_NEEDED
returns-then-out-lt-WORST_NEEDED c = into-refused _ _ c.args.out.now c.if-out-lt-WORST_NEEDED.true

pub returns : goal.returns
returns c =
    into-written _ _ c.args.out.now c.if-out-lt-WORST_NEEDED.false
    c.worst_given-length.ensures
