use native.Mathlib.Omega.{arith}
use mathlib.Core.Path.{sym, ◌∙◌}
use Rattle.rows_code.proofs.Row.{order-of-none, order-of-first, order-of-low, order-of-next, order-of-end}
use Rattle.rows_code.proofs.row_in_order.Goals as goal

pub returns-in_default : goal.returns-in_default
returns-in_default c = sym (order-of-none c.args.row.now c.args.n (omega (arith, c.in_default.ensures.cases)))

pub loop-v-init : goal.loop-v-init
loop-v-init c = order-of-first _ _ _ _ c.in-Some.ensures.cases.0

pub returns-then-not-ascend : goal.returns-then-not-ascend
returns-then-not-ascend c =
    sym (c.loop-v.invariant ∙ order-of-low _ _ _ _ c.loop-v-test.true (sym c.ascend.ensures ∙ c.if-not-ascend.true))

pub loop-v-preserved : goal.loop-v-preserved
loop-v-preserved c =
    c.loop-v.invariant ∙ order-of-next _ _ _ _ c.loop-v-test.true (sym c.ascend.ensures ∙ c.if-not-ascend.false)

pub returns : goal.returns
returns c = c.is_below.ensures ∙ sym (c.loop-v.invariant ∙ order-of-end _ _ _ _ c.loop-v-test.false)
