-- `reply_ask::asked` meets its contract: the line of the offer, or of the refusal. Assumes nothing.
use Rattle.reply_ask.proofs.Offers.{ask-offered, ask-refused}
use Rattle.reply_ask.proofs.asked.Goals as goal

pub returns-in-Ok : goal.returns-in-Ok
returns-in-Ok c =
    rw (ask-offered c.args.pack.now c.args.order c.requires.work_most_in_bounds c.ask-result.ensures c.in-Ok.is) c.offered_line.ensures

pub returns-in-Err : goal.returns-in-Err
returns-in-Err c =
    rw (ask-refused c.args.pack.now c.args.order c.requires.work_most_in_bounds c.ask-result.ensures c.in-Err.is) c.refused_line.ensures
