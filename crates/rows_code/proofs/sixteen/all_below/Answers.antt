use mathlib.Core.Path.{sym, ◌∙◌}
use Rattle.rows_code.proofs.Marks.{below-next, below_end}
use Rattle.rows_code.proofs.sixteen.all_below.Goals as goal

pub loop-i-preserved : goal.loop-i-preserved
loop-i-preserved c =
    rw c.keeps_order-fine.ensures (c.loop-i.invariant ∙ below-next _ _ _ _ _ _ c.loop-i-test.true)

pub returns : goal.returns
returns c = sym (c.loop-i.invariant ∙ below_end _ _ _ _ _ _ c.loop-i-test.false)
