-- Document 02, (l): "Replaying an outage log". Assumes nothing.
use Rattle.std.specs.Prelude.{ℕ, suc, Bool, cond, List, [], ◌∷◌, ltb}
use Rattle.std.proofs.Math.Option.{Option, none, some}
use Rattle.refusal.specs.Checked.{Checked, accepted, ◌>>=◌}
use Rattle.packing.specs.Failures.{usable}
use Rattle.placement.specs.Placement.{Placement, check_placement}
use Rattle.placement.specs.Units.{units, unit_rows}
use Rattle.replay.specs.declared.Event.{Event}
use Rattle.replay.specs.Log.{all_up, down_after, check_log}

-- "the lowest number of usable records and the first event after which it stood", of the events so far
pub record Lowest : Type 0 where
  pub number : ℕ
  pub event : Option ℕ

-- after event i, which leaves `number` records usable: of several with the lowest number the first stays
abbrev pub lowered : (number i : ℕ) → Lowest → Lowest
lowered number i found = go found.event
  where
    go : Option ℕ → Lowest
    go none = record { number = number; event = some i }
    go (some j) = cond (ltb number found.number) (record { number = number; event = some i }) found

-- the events from event i on, where `value` says how many records are usable with these nodes down
unfoldable pub lowest_from : (value : (ℕ → Bool) → ℕ) (i : ℕ) (down : ℕ → Bool) → List Event → Lowest → Lowest
lowest_from value i down [] found = found
lowest_from value i down (e ∷ log) found =
    lowest_from value (suc i) (down_after down e) log (lowered (value (down_after down e)) i found)

-- "for an empty log give b and no event"
abbrev pub lowest_by : (value : (ℕ → Bool) → ℕ) (b : ℕ) → List Event → Lowest
lowest_by value b log = lowest_from value 0 all_up log (record { number = b; event = none })

-- "Run one against an accepted placement, with all nodes up at first."
unfoldable pub lowest_of : Placement → List Event → Lowest
lowest_of p log = lowest_by (usable p.s (unit_rows p)) p.b log

-- "The placement is checked, then the whole log, before anything is counted."
unfoldable pub check_replay : (bytes : List ℕ) → List Event → Checked Lowest
check_replay bytes log = do
  p ← check_placement bytes
  _ ← check_log (units p) log
  accepted (lowest_of p log)
