use mathlib.Core.Path.{sym, ap, ◌∙◌}
use Rattle.packing.specs.Answers.{row_found}
use Rattle.rows_code.proofs.FirstBad.{bad-past, bad-of-end, bad-of-here, bad-of-next}
use Rattle.rows_code.proofs.bad_row.Goals as goal

pub loop-j-init : goal.loop-j-init
loop-j-init c = bad-past _ _ _ _ _ c.requires.start_le_c c.requires.all

pub returns-then-not-row_in_order : goal.returns-then-not-row_in_order
returns-then-not-row_in_order c = let a = c.args in sym (ap row_found (c.loop-j.invariant ∙ bad-of-here a.n a.r a.c a.rows.now c.loop-j.j c.loop-j-test.true (sym c.row_in_order.ensures ∙ c.if-not-row_in_order.true)))

pub loop-j-preserved : goal.loop-j-preserved
loop-j-preserved c = let a = c.args in c.loop-j.invariant ∙ bad-of-next a.n a.r a.c a.rows.now c.loop-j.j c.loop-j-test.true (sym c.row_in_order.ensures ∙ c.if-not-row_in_order.false)

pub returns : goal.returns
returns c = let a = c.args in sym (ap row_found (c.loop-j.invariant ∙ bad-of-end a.n a.r a.c a.rows.now c.loop-j.j c.loop-j-test.false))
