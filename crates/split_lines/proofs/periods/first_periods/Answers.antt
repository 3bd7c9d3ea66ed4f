use Rattle.split_lines.proofs.Stepping.{first_entry, periods-more, periods-of}
use native.Mathlib.Omega.{arith}
use Rattle.split_lines.proofs.periods.first_periods.Goals as goal

pub loop-i-preserved : goal.loop-i-preserved
loop-i-preserved c =
    let s = c.requires.0 in
    periods-more s c.loop-i.invariant c.min.result (omega (arith, c.min-i-end.ensures))
    (first_entry s c.loop-i.i (omega (arith, c.min-i-end.ensures)) c.min.ensures)

pub returns : goal.returns
returns c = periods-of c.requires.0 c.loop-i.invariant (omega (arith, c.min-i-end.ensures))
