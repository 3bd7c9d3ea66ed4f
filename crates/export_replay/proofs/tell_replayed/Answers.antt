-- `export_replay::tell_replayed` meets its contract, by its three cases. Assumes nothing.
use Rattle.export_replay.proofs.tell_replayed.Goals as goal

pub returns-in-Lowest : goal.returns-in-Lowest
returns-in-Lowest c =
    rw c.in-Lowest.is c.lowest.ensures

pub returns-in-Quiet : goal.returns-in-Quiet
returns-in-Quiet c =
    rw c.in-Quiet.is c.value.ensures

pub returns-in-Refused : goal.returns-in-Refused
returns-in-Refused c =
    rw c.in-Refused.is c.refused.ensures
