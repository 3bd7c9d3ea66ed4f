-- `lines::event_of` meets its contract. Assumes nothing.
use mathlib.Core.Path.{refl}
use Rattle.logs_code.proofs.lines.event_of.Goals as goal

pub returns : goal.returns
returns c = rw c.node_of.ensures refl
