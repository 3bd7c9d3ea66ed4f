-- `curve_figures::binomials::row_of` meets its contract. The loop's invariant: the row is that of i. Assumes nothing.
use Prim.Native.Nat.{◌-◌, ◌≤◌}
use mathlib.Core.Path.{◌≡◌}
use Rattle.curve.specs.Binomials.{binomial_row}
use Rattle.curve_figures.proofs.binomials.row_of.Given as goal

abbrev pub invariant-loop-i : goal.invariant-loop-i
invariant-loop-i l = l.row ≡ binomial_row l.i
