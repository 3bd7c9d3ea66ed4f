-- `reply_join::one_text` meets its contract: what the call left, and the line of its refusal. Assumes nothing.
use Rattle.reply_join.proofs.Joins.{told-replied}
use Rattle.reply_join.proofs.one_text.Goals as goal

pub returns : goal.returns
returns c =
    told-replied _ c.args.out.now c.join_one-joined.ensures c.tell.ensures
