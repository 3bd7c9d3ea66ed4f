-- `reply_join::two_text` meets its contract: what the call left, and the line of its refusal. Assumes nothing.
use Rattle.reply_join.proofs.Joins.{told-replied}
use Rattle.reply_join.proofs.two_text.Goals as goal

pub returns : goal.returns
returns c =
    told-replied _ c.args.out.now c.join_two-joined.ensures c.tell.ensures
