-- `reply_rounds::rounds_reply` meets its contract: too short a slice is refused, and in any other stands the reply. Assumes nothing.
use Rattle.replies.proofs.Replying.{into-refused, into-written}
use Rattle.reply_rounds.proofs.rounds_reply.Goals as goal

pub returns-then-out-lt-LINE_NEEDED : goal.returns-then-out-lt-LINE_NEEDED
returns-then-out-lt-LINE_NEEDED c = into-refused _ _ c.args.out.now c.if-out-lt-LINE_NEEDED.true

pub returns : goal.returns
returns c =
    into-written _ _ c.args.out.now c.if-out-lt-LINE_NEEDED.false
    c.rounds_given-length.ensures
