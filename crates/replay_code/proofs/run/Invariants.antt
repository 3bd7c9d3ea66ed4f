-- `replay_code::run` meets its contract. The loop's invariant: what the rest of the log gives, from event i on, is what the whole log
-- gives from the start. Assumes nothing.
use mathlib.Core.Path.{◌≡◌}
use Prim.Native.Nat.{◌-◌, ◌≤◌}
use lib.ListN.{length, drop}
use Rattle.replay.specs.Board.{rest, Standing}
use Rattle.replay_code.proofs.run.Given as goal

abbrev pub invariant-loop-i : goal.invariant-loop-i
invariant-loop-i l =
    Standing l.progress l.board
    × (rest l.fn.start l.initial.board 0 l.events ≡ rest l.progress l.board l.i (drop l.i l.events))
