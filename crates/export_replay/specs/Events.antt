-- A log in plain slices: the events' times, their nodes, and whether each goes down. Assumes nothing.
use Rattle.std.specs.Prelude.{ℕ, Bool, ◌&&◌, List, [], ◌∷◌, length, eqb, ltb}
use Rattle.replay.specs.declared.Event.{Event}
use Rattle.exports.specs.Exports.{fits}

-- an event; a node goes down where its number is not 0, and comes up where it is
abbrev pub event_of : (time node down : ℕ) → Event
event_of time node down = record { time = time; node = record { 0 = node }; down = ltb 0 down }

-- event i has element i of each slice
unfoldable pub events_of : (times nodes downs : List ℕ) → List Event
events_of (t ∷ times) (v ∷ nodes) (d ∷ downs) = event_of t v d ∷ events_of times nodes downs
events_of [] nodes downs = []
events_of (t ∷ times) [] downs = []
events_of (t ∷ times) (v ∷ nodes) [] = []

-- the lengths that the call states: three numbers for the answer, as many nodes as times, and as many downs
abbrev pub replay_stated : (times nodes downs answer : List ℕ) → Bool
replay_stated times nodes downs answer =
    fits 3 answer && (eqb (length nodes) (length times) && eqb (length downs) (length times))
