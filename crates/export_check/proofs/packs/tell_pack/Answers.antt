-- `export_check::packs::tell_pack` meets its contract, by its two cases. Assumes nothing.
use Rattle.export_check.proofs.packs.tell_pack.Goals as goal

pub returns-in-Ok : goal.returns-in-Ok
returns-in-Ok c =
    rw c.in-Ok.is c.accepted.ensures

pub returns-in-Err : goal.returns-in-Err
returns-in-Err c =
    rw c.in-Err.is c.refused.ensures
