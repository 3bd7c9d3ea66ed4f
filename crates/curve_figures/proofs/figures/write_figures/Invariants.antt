-- `curve_figures::figures::write_figures` meets its contract. The loop's invariant: the figures before place i are stored, and the
-- binomials are those of s + i. Assumes nothing.
use Prim.Native.Nat.{◌+◌, ◌-◌, ◌≤◌}
use mathlib.Core.Path.{◌≡◌}
use lib.ListN.{take}
use Rattle.lists.proofs.Stores.{stored_to}
use Rattle.placement.specs.Figure.{figure_of}
use Rattle.curve.specs.Binomials.{binomial_row}
use Rattle.curve_figures.proofs.figures.write_figures.Given as goal

abbrev pub invariant-loop-i : goal.invariant-loop-i
invariant-loop-i l =
    (l.out ≡ stored_to 0 l.initial.out (λ j. figure_of l.rule l.s (l.s + j) l.b (take l.s l.layers)) l.i) × (l.above ≡ binomial_row (l.s + l.i))
