-- `reply_replay::unread_line` meets its contract: the placement's refusal comes first. Assumes nothing.
use Rattle.reply_replay.proofs.Replays.{unread-accepted, unread-refused}
use Rattle.reply_replay.proofs.unread_line.Goals as goal

pub returns-in-Ok : goal.returns-in-Ok
returns-in-Ok c =
    rw (unread-accepted c.args.placement.now c.args.e c.check_placement-check.ensures c.in-Ok.is) c.text_line.ensures

pub returns-in-Err : goal.returns-in-Err
returns-in-Err c =
    rw (unread-refused c.args.placement.now c.args.e c.check_placement-check.ensures c.in-Err.is) c.refused_line.ensures
