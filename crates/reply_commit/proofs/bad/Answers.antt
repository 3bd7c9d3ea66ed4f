-- `reply_commit::bad` meets its contract. Assumes nothing.
use borrow.Author.Tests.{lt-ltb, le-ltb}
use Rattle.reply_commit.proofs.bad.Goals as goal

pub returns-then-index-lt3 : goal.returns-then-index-lt3
returns-then-index-lt3 c = rw (lt-ltb c.args.index 3 c.if-index-lt3.true)

pub returns : goal.returns
returns c = rw (le-ltb c.args.index 3 c.if-index-lt3.false)
