use Prim.Native.Nat.{◌+◌, ◌-◌}
use Rattle.split_lines.proofs.Stepping.{entry-le, next-entry, periods-more, periods-of}
use native.Mathlib.Omega.{arith}
use Rattle.split_lines.proofs.periods.next_periods.Goals as goal

pub overflow_add-cost : goal.overflow_add-cost
overflow_add-cost c =
    let p = c.requires in
    let pos = p.0.step-pos in
    let h = entry-le p.0 c.loop-i.invariant (c.args.size + c.loop-i.i - c.args.step) (omega arith) in
    let k = p.0.cost-le in
    omega arith

pub loop-i-preserved : goal.loop-i-preserved
loop-i-preserved c =
    let p = c.requires in
    periods-more p.0 c.loop-i.invariant c.min.result (omega (arith, c.min-i-end.ensures))
    (next-entry p.0 c.loop-i.invariant (omega arith) c.min.ensures)

pub returns : goal.returns
returns c = periods-of c.requires.0 c.loop-i.invariant (omega (arith, c.min-i-end.ensures))
