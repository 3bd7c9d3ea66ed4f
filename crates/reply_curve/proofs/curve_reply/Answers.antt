-- `reply_curve::curve_reply` meets its contract: too short a slice is refused, and in any other stands the reply. Assumes nothing.
use Rattle.replies.proofs.Replying.{into-refused, into-written}
use Rattle.reply_curve.proofs.curve_reply.Goals as goal

pub returns-then-out-lt-CURVE_NEEDED : goal.returns-then-out-lt-CURVE_NEEDED
returns-then-out-lt-CURVE_NEEDED c = into-refused _ _ c.args.out.now c.if-out-lt-CURVE_NEEDED.true

pub returns : goal.returns
returns c =
    into-written _ _ c.args.out.now c.if-out-lt-CURVE_NEEDED.false
    c.curve_given-length.ensures
