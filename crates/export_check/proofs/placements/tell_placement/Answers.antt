-- `export_check::placements::tell_placement` meets its contract, by its two cases. Assumes nothing.
use Rattle.export_check.proofs.placements.tell_placement.Goals as goal

pub accepted-requires : goal.accepted-requires
accepted-requires c =
    (c.requires.0.few, c.requires.0.nodes _ c.in-Ok.is, c.requires.1)

pub returns-in-Ok : goal.returns-in-Ok
returns-in-Ok c =
    rw c.in-Ok.is c.accepted.ensures

pub returns-in-Err : goal.returns-in-Err
returns-in-Err c =
    rw c.in-Err.is c.refused.ensures
