-- `placement_figure::floors_down` meets its contract. The loop's invariant: the floors that are left on w are all of them on
-- lambda, and no product that is left wraps. Assumes nothing.
use Rattle.placement_figure.proofs.FloorsDown.{FloorsTurn}
use Rattle.placement_figure.proofs.floors_down.Given as goal

abbrev pub invariant-loop-i : goal.invariant-loop-i
invariant-loop-i l = FloorsTurn l.k l.s l.x l.lambda l.w l.i
