-- `lines::event_said` meets its contract. Assumes nothing.
use Rattle.logs_code.proofs.lines.event_said.Goals as goal

pub returns-in-Down : goal.returns-in-Down
returns-in-Down c =
    rw (c.in-Some.is, c.in-Some-node.is, c.in-Down.is) c.event_of.ensures

pub returns-in-Up : goal.returns-in-Up
returns-in-Up c =
    rw (c.in-Some.is, c.in-Some-node.is, c.in-Up.is) c.event_of-in-Up.ensures
