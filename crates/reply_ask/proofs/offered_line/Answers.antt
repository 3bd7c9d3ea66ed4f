-- `reply_ask::offered_line` meets its contract. Assumes nothing.
use Rattle.reply_ask.proofs.offered_line.Goals as goal

pub returns : goal.returns
returns c = c.line.ensures
