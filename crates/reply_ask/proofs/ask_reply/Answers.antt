-- `reply_ask::ask_reply` meets its contract: too short a slice is refused, and in any other stands the reply. Assumes nothing.
use Rattle.replies.proofs.Replying.{into-refused, into-written}
use Rattle.reply_ask.proofs.ask_reply.Goals as goal

pub returns-then-out-lt-ASK_NEEDED : goal.returns-then-out-lt-ASK_NEEDED
returns-then-out-lt-ASK_NEEDED c = into-refused _ _ c.args.out.now c.if-out-lt-ASK_NEEDED.true

pub returns : goal.returns
returns c =
    into-written _ _ c.args.out.now c.if-out-lt-ASK_NEEDED.false c.ask_given-length.ensures
