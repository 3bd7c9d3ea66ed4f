-- `export_replay::musseltwig_replay` meets its contract: the replay's answer, told as numbers; or slices of other lengths than the call
-- states. Assumes nothing.
use Rattle.replay.specs.Answers.{replay_outcome}
use Rattle.exports.proofs.Told.{stated-told, unstated-told}
use Rattle.export_replay.proofs.Logged.{stated, unstated-answer, unstated-nodes, unstated-downs}
use Rattle.export_replay.proofs.musseltwig_replay.Goals as goal

pub returns-then-answer-lt3 : goal.returns-then-answer-lt3
returns-then-answer-lt3 c =
    unstated-told _ _ _ (unstated-answer c.args.times.now c.args.nodes.now c.args.downs.now c.args.answer.now c.if-answer-lt3.true)

pub returns-then-nodes-times : goal.returns-then-nodes-times
returns-then-nodes-times c =
    unstated-told _ _ _ (unstated-nodes c.args.times.now c.args.nodes.now c.args.downs.now c.args.answer.now c.if-answer-lt3.false c.if-nodes-times.true)

pub returns-then-downs-times : goal.returns-then-downs-times
returns-then-downs-times c =
    unstated-told _ _ _
    (unstated-downs c.args.times.now c.args.nodes.now c.args.downs.now c.args.answer.now c.if-answer-lt3.false c.if-nodes-times.false c.if-downs-times.true)

pub replay_events-replayed-requires : goal.replay_events-replayed-requires
replay_events-replayed-requires c = (c.if-nodes-times.false, c.if-downs-times.false)

pub tell_replayed-requires : goal.tell_replayed-requires
tell_replayed-requires c = c.if-answer-lt3.false

pub returns : goal.returns
returns c =
    stated-told replay_outcome _ _ _ _ _ _
    (stated c.args.times.now c.args.nodes.now c.args.downs.now c.args.answer.now c.if-answer-lt3.false c.if-nodes-times.false c.if-downs-times.false)
    c.replay_events-replayed.ensures c.tell_replayed.ensures
