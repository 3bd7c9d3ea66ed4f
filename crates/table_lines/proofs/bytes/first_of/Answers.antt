use native.Mathlib.Omega.{arith}
use mathlib.Core.Path.{◌≡◌, ◌∙◌}
use lib.ListN.{length}
use Rattle.table_lines.proofs.Looking.{looked-none, looked-here, looked-next, looked-all}
use Rattle.table_lines.proofs.bytes.first_of.Goals as goal

pub loop-i-init : goal.loop-i-init
loop-i-init c = looked-none _ _

pub returns-then-bytes-i : goal.returns-then-bytes-i
returns-then-bytes-i c = looked-here _ _ c.loop-i.invariant c.loop-i-test.true c.if-bytes-i.true

pub loop-i-preserved : goal.loop-i-preserved
loop-i-preserved c = looked-next _ _ c.loop-i.invariant c.loop-i-test.true c.if-bytes-i.false

pub returns : goal.returns
returns c =
    let e : length c.args.bytes.now ≡ c.loop-i.i = omega (arith, c.loop-i.invariant.within, c.loop-i-test.false) in
    e ∙ looked-all _ _ c.loop-i.invariant c.loop-i-test.false
