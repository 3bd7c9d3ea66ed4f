-- Document 02, (l): outage logs, "as a lent list of events, each a time, a node and down or up". Assumes nothing.
use Rattle.std.specs.Prelude.{ℕ, suc, ◌≤◌, ◌<◌, ◌≡◌, Bool, false, cond, not, ◌&&◌, List, [], ◌∷◌, get_or, take, leb, ltb, eqb}
use Rattle.refusal.specs.declared.Refusal.TheVariants.{EarlierEvent, BadEvent}
use Rattle.refusal.specs.Checked.{Checked, accepted, ◌>>=◌, require}
use Rattle.replay.specs.declared.Event.{Event}

-- Which nodes are down is a test of a node: "with all nodes up at first".
abbrev pub all_up : ℕ → Bool
all_up v = false

-- after an event its node is down or up, as the event says, and every other node is as it was
abbrev pub down_after : (down : ℕ → Bool) → Event → ℕ → Bool
down_after down e v = cond (eqb v e.node.0) e.down (down v)

-- the event is no "change to the state it is already in": a node that goes down is up, and one that comes up is down
abbrev pub changes : (down : ℕ → Bool) → Event → Bool
changes down e = cond e.down (not (down e.node.0)) (down e.node.0)

-- "It refuses with 19 an event earlier than the one before, and with 20 a node not below n or a change to the state it is already
-- in; .. 19 before 20, its index .. as place": event i, the one before it being at `time`
abbrev pub check_event : (n i time : ℕ) (down : ℕ → Bool) → Event → Checked Unit
check_event n i time down e = do
  _ ← require (leb time e.time) (EarlierEvent i)
  require (ltb e.node.0 n && changes down e) (BadEvent i)

-- "the first bad event counts": the events from event i on
unfoldable pub check_events : (n i time : ℕ) (down : ℕ → Bool) → List Event → Checked Unit
check_events n i time down [] = accepted tt
check_events n i time down (e ∷ log) = do
  _ ← check_event n i time down e
  check_events n (suc i) e.time (down_after down e) log

-- "events are numbered from 0"; no time is earlier than 0, so that the first event is never refused with 19
abbrev pub check_log : (n : ℕ) → List Event → Checked Unit
check_log n log = check_events n 0 0 all_up log

-- which nodes are down after a whole log
unfoldable pub down_by : (down : ℕ → Bool) → List Event → ℕ → Bool
down_by down [] = down
down_by down (e ∷ log) = down_by (down_after down e) log

-- what stands for an event past the log's end
abbrev pub no_event : Event
no_event = record { time = 0; node = record { 0 = 0 }; down = false }

-- what makes event t of a log good, in the request's words: it is not "earlier than the one before", its node is below n, and before it
-- the node is not in the state that it changes to
pub record GoodAt (n : ℕ) (log : List Event) (t : ℕ) : Type 0 where
  pub in-time : (before : ℕ) → suc before ≡ t → (get_or log before no_event).time ≤ (get_or log t no_event).time
  pub below : (get_or log t no_event).node.0 < n
  pub turns : down_by all_up (take t log) (get_or log t no_event).node.0 ≡ not (get_or log t no_event).down
