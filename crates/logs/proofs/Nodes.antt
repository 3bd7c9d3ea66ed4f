-- A node's number from 255 on is of no placement, so holding it as 255 changes no check. Assumes nothing.
use Prim.Native.Nat.{ℕ, ◌≤◌}
use native.Mathlib.Omega.{arith}
use mathlib.Core.Path.{◌≡◌, refl}
use mathlib.Core.Bool.{Bool, true, false, cond}
use lib.Dec.{ltb}
use borrow.Author.Tests.{le-ltb, ltb-false}
use Rattle.replay.specs.declared.Event.{Event}
use Rattle.replay.specs.Log.{check_event}
use Rattle.logs.specs.Lines.{node_of}

-- an event with this node
abbrev event_at : (time node : ℕ) (down : Bool) → Event
event_at time node down = record { time = time; node = record { 0 = node }; down = down }

-- "a node not below n" is refused whichever it is: n is at most 255
pub node-held : (n i before time v : ℕ) (marks : ℕ → Bool) (down : Bool) → n ≤ 255
    → check_event n i before marks (event_at time (node_of v) down) ≡ check_event n i before marks (event_at time v down)
node-held n i before time v marks down most = go (ltb v 255) refl
  where
    go : (b : Bool) → ltb v 255 ≡ b
        → check_event n i before marks (event_at time (cond b v 255) down) ≡ check_event n i before marks (event_at time v down)
    go true e = refl
    go false e = let far = ltb-false v 255 e in rw (le-ltb 255 n most, le-ltb v n (omega arith)) refl
