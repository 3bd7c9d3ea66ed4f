-- `replay_step::lowered` meets its contract. Assumes nothing.
use mathlib.Core.Path.{sym, ◌∙◌, ap}
use Rattle.replay.specs.Board.{lowered_to}
use Rattle.replay.proofs.Steps.{lowered-less, lowered-not}
use Rattle.replay_step.proofs.lowered.Goals as goal

pub returns-then-usable-low : goal.returns-then-usable-low
returns-then-usable-low c = lowered-less _ _ _ _ c.if-usable-low.true ∙ sym (ap (lowered_to _ _) c.in-Lowest.is)

pub returns-else-usable-low : goal.returns-else-usable-low
returns-else-usable-low c =
    lowered-not _ _ _ _ c.if-usable-low.false ∙ sym (ap (lowered_to _ _) c.in-Lowest.is)

pub returns-in-Quiet : goal.returns-in-Quiet
returns-in-Quiet c = sym (ap (lowered_to _ _) c.in-Quiet.is)

pub returns-in-Refused : goal.returns-in-Refused
returns-in-Refused c = sym (ap (lowered_to _ _) c.in-Refused.is)
