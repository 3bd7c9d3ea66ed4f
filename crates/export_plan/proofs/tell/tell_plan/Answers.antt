-- `export_plan::tell::tell_plan` meets its contract, by its two cases. Assumes nothing.
use Rattle.export_plan.proofs.tell.tell_plan.Goals as goal

pub returns-in-Ok : goal.returns-in-Ok
returns-in-Ok c =
    rw c.in-Ok.is c.planned.ensures

pub returns-in-Err : goal.returns-in-Err
returns-in-Err c =
    rw c.in-Err.is c.refused.ensures
