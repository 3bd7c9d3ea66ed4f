-- `curve_code::write_accepted` meets its contract: too short an output is refused, and in any other stand the figures. Assumes
-- nothing.
use native.Mathlib.Omega.{arith}
use Prim.Native.Nat.{◌-◌}
use mathlib.Core.Path.{◌∙◌, ap}
use lib.Seq.{sets}
use Rattle.curve.specs.Asked.{figures_from}
use Rattle.curve.proofs.Curve.{curve-refused, curve-written}
use Rattle.curve_code.proofs.write_accepted.Goals as goal

pub returns-then-out-entries : goal.returns-then-out-entries
returns-then-out-entries c =
    curve-refused c.args.head c.args.units c.args.layers c.args.out.now c.if-out-entries.true

pub write_figures-requires : goal.write_figures-requires
write_figures-requires c =
    let p = c.requires in
    (p.asked, omega (arith, p.s-units, p.units-most), c.if-out-entries.false)

pub returns : goal.returns
returns c =
    curve-written c.args.head c.args.units c.args.layers c.args.out.now c.if-out-entries.false
    (c.write_figures.ensures ∙ ap (λ rule. sets c.args.out.now 0 (figures_from rule c.args.head.s c.args.head.b c.args.layers (c.args.units - c.args.head.s))) c.rule_of-rule.ensures)
