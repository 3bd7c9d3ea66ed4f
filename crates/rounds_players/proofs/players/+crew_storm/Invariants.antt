-- What `rounds_players::players::crew` needs, where `storm` holds for fewer moves. The loop's invariant: the most over the failed nodes
-- below v is found. Assumes nothing.
-- What `rounds_players::players::storm` needs, where `crew` holds for fewer moves. The loops' invariants: the least over the pairs of
-- nodes below v is found, and over those of v and a node below u. Assumes nothing.
use Prim.Native.Nat.{◌*◌, ◌+◌}
use Rattle.rounds.proofs.Moves.{pairs_to}
use Rattle.rounds.proofs.Played.{CrewOver, StormOver}
use Rattle.rounds.specs.Game.{pairs}
use Rattle.rounds_players.proofs.players.+crew_storm.Given as goal

abbrev pub invariant-crew-loop-v : goal.invariant-crew-loop-v
invariant-crew-loop-v l = CrewOver l.usable l.n l.b l.left l.state l.v l.most

abbrev pub invariant-storm-loop-u : goal.invariant-storm-loop-u
invariant-storm-loop-u l =
    StormOver l.usable l.n l.b l.repairs l.state (pairs_to l.v l.u) l.fewest

abbrev pub invariant-storm-loop-v : goal.invariant-storm-loop-v
invariant-storm-loop-v l = StormOver l.usable l.n l.b l.repairs l.state (pairs l.v) l.fewest

-- a move of the other side comes before the next one of this side
abbrev pub decreases-crew : goal.decreases-crew
decreases-crew l = 2 * l.repairs

abbrev pub decreases-storm : goal.decreases-storm
decreases-storm l = 2 * l.repairs + 1
