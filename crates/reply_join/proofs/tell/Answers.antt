-- `reply_join::tell` meets its contract. Assumes nothing.
use mathlib.Core.Path.{refl}
use Rattle.reply_join.proofs.tell.Goals as goal

pub returns-in-Ok : goal.returns-in-Ok
returns-in-Ok c = rw c.in-Ok.is (refl, refl)

pub returns-in-Err : goal.returns-in-Err
returns-in-Err c = rw c.in-Err.is c.refused_line.ensures
