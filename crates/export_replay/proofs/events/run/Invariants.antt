-- `export_replay::events::run` meets its contract: in each turn what the rest of the log gives stays the same. Assumes nothing.
use Prim.Native.Nat.{◌-◌, ◌≤◌}
use mathlib.Core.Path.{◌≡◌}
use lib.ListN.{length, drop}
use Rattle.replay.specs.Board.{rest, Standing}
use Rattle.export_replay.specs.Events.{events_of}
use Rattle.export_replay.proofs.events.run.Given as goal

abbrev pub invariant-loop-i : goal.invariant-loop-i
invariant-loop-i l =
    Standing l.progress l.board
    × (rest l.initial.progress l.initial.board 0 (events_of l.times l.nodes l.downs) ≡ rest l.progress l.board l.i (drop l.i (events_of l.times l.nodes l.downs)))
