-- `reply_replay::replay_named` meets its contract. Assumes nothing.
use Rattle.reply_replay.proofs.Replays.{named-one, named_other}
use Rattle.reply_replay.proofs.replay_named.Goals as goal

pub returns-then-named-eq1 : goal.returns-then-named-eq1
returns-then-named-eq1 c =
    rw (named-one c.args.named c.args.log.now c.args.placement.now c.if-named-eq1.true) c.replay_text.ensures

pub returns : goal.returns
returns c =
    rw (named_other c.args.named c.args.log.now c.args.placement.now c.if-named-eq1.false) c.text_line.ensures
