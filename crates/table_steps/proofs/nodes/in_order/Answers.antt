use mathlib.Core.Path.{refl, sym, ◌∙◌}
use Rattle.table_steps.proofs.Ordering.{order-low, order-high, order-next, order-end}
use native.Mathlib.Omega.{arith}
use Rattle.table_steps.proofs.nodes.in_order.Goals as goal

pub loop-v-init : goal.loop-v-init
loop-v-init c = refl

pub returns-then-v-least : goal.returns-then-v-least
returns-then-v-least c = sym (c.loop-v.invariant ∙ order-low _ _ _ _ c.loop-v-test.true c.if-v-least.true)

pub returns-then-n-v : goal.returns-then-n-v
returns-then-n-v c =
    sym (c.loop-v.invariant ∙ order-high _ _ _ _ c.loop-v-test.true c.if-n-v.true)

pub loop-v-preserved : goal.loop-v-preserved
loop-v-preserved c =
    (c.loop-v.invariant ∙ order-next _ _ _ _ c.loop-v-test.true (omega (arith, c.if-v-least.false)) (omega (arith, c.if-n-v.false)))

pub returns : goal.returns
returns c = sym (c.loop-v.invariant ∙ order-end _ _ _ _ c.loop-v-test.false)
