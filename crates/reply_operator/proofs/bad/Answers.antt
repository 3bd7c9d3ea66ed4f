-- `reply_operator::bad` meets its contract. Assumes nothing.
use borrow.Author.Tests.{lt-ltb, le-ltb}
use Rattle.reply_operator.proofs.bad.Goals as goal

pub returns-then-index-lt2 : goal.returns-then-index-lt2
returns-then-index-lt2 c = rw (lt-ltb c.args.index 2 c.if-index-lt2.true)

pub returns : goal.returns
returns c = rw (le-ltb c.args.index 2 c.if-index-lt2.false)
