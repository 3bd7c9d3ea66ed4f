use native.Mathlib.Omega.{arith}
use native.Mathlib.Numerals.{add-one}
use mathlib.Core.Path.{◌≡◌, ◌∙◌, ap}
use Rattle.curve.specs.Binomials.{binomial_row}
use Rattle.curve.proofs.Binomials.{row_zero}
use Rattle.curve_figures.proofs.binomials.row_of.Goals as goal

pub loop-i-init : goal.loop-i-init
loop-i-init c = row_zero

pub loop-i-preserved : goal.loop-i-preserved
loop-i-preserved c = c.next_row-next.ensures ∙ rw add-one

pub returns : goal.returns
returns c =
    let e : c.loop-i.i ≡ c.args.m = omega arith in
    c.loop-i.invariant ∙ ap binomial_row e
