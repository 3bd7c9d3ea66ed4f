-- `curve_figures::figures::figure_at` meets its contract, by either rule. Assumes nothing.
use Rattle.curve_figures.proofs.figures.figure_at.Goals as goal

pub returns : goal.returns
returns c = rw c.in_default.is c.figure_from.ensures
