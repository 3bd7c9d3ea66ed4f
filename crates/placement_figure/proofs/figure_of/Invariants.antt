-- `placement_figure::figure_of` meets its contract. The loop's invariant: what is lost so far and the losses of the layers
-- that are left are the losses of all. Assumes nothing.
use Rattle.placement_figure.proofs.Losses.{LossTurn}
use Rattle.placement_figure.proofs.figure_of.Given as goal

abbrev pub invariant-loop-x : goal.invariant-loop-x
invariant-loop-x l = LossTurn l.rule l.s l.k l.layers l.lost l.x
