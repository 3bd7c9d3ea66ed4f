-- `walk_rows::place::opened_place` meets its contract, by the cases of the answer. Assumes nothing.
use mathlib.Core.Path.{sym, ap}
use Rattle.walk.specs.RowWalk.{opened_place}
use Rattle.walk_rows.proofs.place.opened_place.Goals as goal

pub returns-in-Ok : goal.returns-in-Ok
returns-in-Ok c = sym (ap opened_place c.in-Ok.is)

pub returns-in-Err : goal.returns-in-Err
returns-in-Err c = sym (ap opened_place c.in-Err.is)
