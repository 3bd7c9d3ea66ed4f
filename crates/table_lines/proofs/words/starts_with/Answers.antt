use mathlib.Core.Path.{refl}
use Rattle.table_lines.proofs.Looking.{compared-ended, compared-other, compared-next, compared-all}
use native.Mathlib.Omega.{arith}
use Rattle.table_lines.proofs.words.starts_with.Goals as goal

pub loop-i-init : goal.loop-i-init
loop-i-init c = (omega arith, refl)

pub returns-then-line-i : goal.returns-then-line-i
returns-then-line-i c = compared-ended _ _ _ c.loop-i.invariant.1 c.loop-i-test.true c.if-line-i.true

pub returns-then-line-i-2 : goal.returns-then-line-i-2
returns-then-line-i-2 c =
    compared-other _ _ _ c.loop-i.invariant.1 c.loop-i-test.true (omega (arith, c.if-line-i.false)) c.if-line-i-2.true

pub loop-i-preserved : goal.loop-i-preserved
loop-i-preserved c =
    (omega arith, compared-next _ _ _ c.loop-i.invariant.1 c.loop-i-test.true (omega (arith, c.if-line-i.false)) c.if-line-i-2.false)

pub returns : goal.returns
returns c = compared-all _ _ _ c.loop-i.invariant.1 c.loop-i-test.false
