-- `reply_replay::replay_text` meets its contract: a refusal of the text, or what the replay answers. Assumes nothing.
use Rattle.reply_replay.proofs.Replays.{whole-most, whole-text, unread-text}
use Rattle.reply_replay.proofs.replay_text.Goals as goal

pub replay_first-answer-requires : goal.replay_first-answer-requires
replay_first-answer-requires c =
    whole-most c.args.log.now c.read_log-read.result c.read_log-read.ensures c.in-Ok.is

pub returns-in-Err : goal.returns-in-Err
returns-in-Err c =
    rw (unread-text c.args.log.now c.read_log-read.result c.read_log-read.ensures c.in-Err.is c.args.placement.now) c.unread_line.ensures

pub returns-in-Ok : goal.returns-in-Ok
returns-in-Ok c =
    rw (
      whole-text c.args.log.now c.read_log-read.result c.read_log-read.ensures c.in-Ok.is c.args.placement.now,
      ← c.replay_first-answer.ensures,
    )
    c.lowest_line.ensures
