-- `replay_hits::raise` meets its contract. The loop's invariant: the entries seen are raised. Assumes nothing.
use Prim.Native.Nat.{◌-◌, ◌≤◌}
use mathlib.Core.Path.{◌≡◌}
use lib.ListN.{length}
use Rattle.worst.specs.Records.{raised_to}
use Rattle.replay.specs.Board.{index_of, hits_of, Hit}
use Rattle.replay_hits.proofs.raise.Given as goal

abbrev pub invariant-loop-seen : goal.invariant-loop-seen
invariant-loop-seen l =
    Hit l.s l.b l.initial.board (raised_to (index_of l.initial.board) (hits_of l.initial.board l.b) l.from l.seen) l.board l.left
