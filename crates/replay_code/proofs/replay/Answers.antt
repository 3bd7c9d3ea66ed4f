-- `replay_code::replay` meets its contract: the events are replayed from where the placement's check leaves the board. Assumes nothing.
use mathlib.Core.Path.{refl, sym, ◌∙◌}
use Rattle.lists.proofs.Parts.{get_d-zeros}
use Rattle.replay_code.proofs.replay.Goals as goal

pub begin-start-requires : goal.begin-start-requires
begin-start-requires c = (refl, λ q. get_d-zeros 25_089 q)

pub run-end-requires : goal.run-end-requires
run-end-requires c = c.begin-start.ensures.standing

pub returns : goal.returns
returns c = c.run-end.ensures ∙ sym (c.begin-start.ensures.same c.args.events.now)
