-- `crowding_code::packings::check_packings` meets its contract. The loop's invariant: the first crowded row of the layers from
-- the present one on is that of all layers, and layer 0 starts where the rows do. Assumes nothing.
use mathlib.Core.Path.{◌≡◌}
use Rattle.crowding_code.proofs.packings.CrowdLoop.{CrowdTurn}
use Rattle.crowding_code.proofs.packings.check_packings.Given as goal

abbrev pub invariant-loop-x : goal.invariant-loop-x
invariant-loop-x l = CrowdTurn l.r l.layers l.heads l.bytes l.at l.start l.x × (l.x ≡ 0 → l.start ≡ l.at)
