-- `reply_curve::put_figures` meets its contract. The loop's invariant: the lines of the figures so far stand at the start. Assumes
-- nothing.
use Rattle.reply_curve.proofs.Figures.{FigureTurn}
use Rattle.reply_curve.proofs.put_figures.Given as goal

abbrev pub invariant-loop-i : goal.invariant-loop-i
invariant-loop-i l = FigureTurn l.figures l.initial.out l.k l.out l.place l.i
