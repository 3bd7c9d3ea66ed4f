-- `reply_page::page_reply` meets its contract: too short a slice is refused, and in any other stands the reply. Assumes nothing.
use Rattle.replies.proofs.Replying.{into-refused, into-written}
use Rattle.reply_page.proofs.page_reply.Goals as goal

pub returns-then-out-lt-PAGE_NEEDED : goal.returns-then-out-lt-PAGE_NEEDED
returns-then-out-lt-PAGE_NEEDED c = into-refused _ _ c.args.out.now c.if-out-lt-PAGE_NEEDED.true

pub returns : goal.returns
returns c =
    into-written _ _ c.args.out.now c.if-out-lt-PAGE_NEEDED.false
    c.page_given-length.ensures
