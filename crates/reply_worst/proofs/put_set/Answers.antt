-- `reply_worst::put_set` meets its contract: the line of the number and the nodes. Assumes nothing.
use Rattle.reply_worst.proofs.Sets.{set-replied}
use Rattle.reply_worst.proofs.put_set.Goals as goal

pub returns : goal.returns
returns c =
    set-replied c.args.number c.args.nodes.now _ c.widen.ensures c.requires.nodes_len_bound c.requires.worst_needed_in_bounds c.put_numbers.ensures
