use native.Mathlib.Omega.{arith}
use Rattle.reply_curve.proofs.Figures.{figures-hold, figures-fit, figures-again, figures-all}
use Rattle.reply_curve.proofs.put_figures.Goals as goal

pub loop-i-init : goal.loop-i-init
loop-i-init c = figures-hold _ _ _

pub put_numbers-place-requires : goal.put_numbers-place-requires
put_numbers-place-requires c =
    omega (arith, figures-fit c.loop-i.invariant c.requires.figures_len_bound c.requires.curve_needed_in_bounds c.loop-i-test.true)

pub loop-i-preserved : goal.loop-i-preserved
loop-i-preserved c =
    figures-again c.loop-i.invariant c.requires.figures_len_bound c.requires.curve_needed_in_bounds c.loop-i-test.true _ _ c.put_numbers-place.auto.out
    (rw c.from.ensures at c.put_numbers-place.ensures)

pub shape_of-out : goal.shape_of-out
shape_of-out c = c.loop-i.invariant.same_length

pub returns : goal.returns
returns c =
    figures-all c.loop-i.invariant c.requires.figures_len_bound c.requires.curve_needed_in_bounds (omega (arith, c.loop-i-test.false))
