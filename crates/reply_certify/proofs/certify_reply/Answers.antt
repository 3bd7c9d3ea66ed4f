-- `reply_certify::certify_reply` meets its contract: too short a slice is refused, and in any other stands the reply. Assumes nothing.
use Rattle.replies.proofs.Replying.{into-refused, into-written}
use Rattle.reply_certify.proofs.certify_reply.Goals as goal

pub returns-then-out-lt-OUTPUT_MOST : goal.returns-then-out-lt-OUTPUT_MOST
returns-then-out-lt-OUTPUT_MOST c = into-refused _ _ c.args.out.now c.if-out-lt-OUTPUT_MOST.true

pub returns : goal.returns
returns c =
    into-written _ _ c.args.out.now c.if-out-lt-OUTPUT_MOST.false c.certify_given-length.ensures
