-- `reply_join::three_text` meets its contract: what the call left, and the line of its refusal. Assumes nothing.
use Rattle.reply_join.proofs.Joins.{told-replied}
use Rattle.reply_join.proofs.three_text.Goals as goal

pub returns : goal.returns
returns c =
    told-replied _ c.args.out.now c.join_three-joined.ensures c.tell.ensures
