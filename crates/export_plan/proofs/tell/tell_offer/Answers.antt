-- `export_plan::tell::tell_offer` meets its contract, by its two cases. Assumes nothing.
use Rattle.export_plan.proofs.tell.tell_offer.Goals as goal

pub returns-in-Ok : goal.returns-in-Ok
returns-in-Ok c =
    rw c.in-Ok.is c.offered.ensures

pub returns-in-Err : goal.returns-in-Err
returns-in-Err c =
    rw c.in-Err.is c.refused.ensures
