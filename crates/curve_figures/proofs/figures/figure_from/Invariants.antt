-- `curve_figures::figures::figure_from` meets its contract. The loop's invariant: what is lost so far and the losses of the layers
-- that are left are the losses of all. Assumes nothing.
use Prim.Native.Nat.{◌-◌}
use Rattle.placement.specs.declared.Rule.TheVariants.{OneFloor}
use Rattle.placement_figure.proofs.Losses.{LossTurn}
use Rattle.curve_figures.proofs.figures.figure_from.Given as goal

abbrev pub invariant-loop-x : goal.invariant-loop-x
invariant-loop-x l = LossTurn OneFloor l.s l.k l.layers l.lost l.x
