use Prim.Native.Nat.{suc, ◌+◌}
use native.Mathlib.Omega.{arith}
use native.Mathlib.Nat.{zero-add}
use mathlib.Core.Path.{◌≡◌, ◌∙◌, ap}
use lib.ListN.{take}
use Rattle.lists.proofs.Stores.{stored_to, stored-none, stored_next, length-stored}
use Rattle.placement.specs.Figure.{figure_of}
use Rattle.placement.proofs.Losses.{figure_of-le}
use Rattle.curve.specs.Binomials.{binomial_row}
use Rattle.curve_figures.proofs.figures.write_figures.Goals as goal

pub row_of-below-requires : goal.row_of-below-requires
row_of-below-requires c =
    omega (arith, c.requires.1)

pub loop-i-init : goal.loop-i-init
loop-i-init c =
    let e : c.args.s ≡ c.args.s + 0 = omega arith in
    (stored-none 0 _ _, c.row_of-below.ensures ∙ ap binomial_row e)

pub figure_at-requires : goal.figure_at-requires
figure_at-requires c =
    let p = c.requires in record { layers_asked = (p.0, omega arith, omega (arith, p.1, c.loop-i-test.true)); above_value = (c.loop-i.invariant.1, c.row_of-below.ensures) }

pub overflow_cast-out : goal.overflow_cast-out
overflow_cast-out c =
    let p = c.requires in
    omega (
      arith,
      p.0.b-most,
      c.figure_at.ensures,
      figure_of-le c.args.rule c.args.s (c.args.s + c.loop-i.i) c.args.b (take c.args.s c.args.layers),
    )

pub bounds-out-i : goal.bounds-out-i
bounds-out-i c =
    let e = length-stored 0 _ _ _ c.loop-i.invariant.0 in
    omega arith

pub loop-i-preserved : goal.loop-i-preserved
loop-i-preserved c =
    let next = stored_next 0 _ (λ j. figure_of c.args.rule c.args.s (c.args.s + j) c.args.b (take c.args.s c.args.layers)) c.loop-i.i _ c.loop-i.invariant.0
    c.figure_at.ensures in
    let e : suc (c.args.s + c.loop-i.i) ≡ c.args.s + (c.loop-i.i + 1) = omega arith in
    (rw zero-add at next, c.next_row-next.ensures ∙ ap binomial_row e)

pub shape_of-out : goal.shape_of-out
shape_of-out c =
    length-stored 0 _ _ _ c.loop-i.invariant.0

pub returns : goal.returns
returns c =
    let e : c.loop-i.i ≡ c.args.entries = omega arith in
    c.loop-i.invariant.0 ∙ ap (stored_to 0 c.args.out.now (λ j. figure_of c.args.rule c.args.s (c.args.s + j) c.args.b (take c.args.s c.args.layers))) e
