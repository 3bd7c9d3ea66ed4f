-- `placement_figure::rule_of` meets its contract. Assumes nothing.
use borrow.Author.Tests.{eq-eqb, ne_eqb}
use Rattle.placement_figure.proofs.rule_of.Goals as goal

pub returns-then-kind-eq2 : goal.returns-then-kind-eq2
returns-then-kind-eq2 c = rw (eq-eqb _ 2 c.if-kind-eq2.true)

pub returns : goal.returns
returns c = rw (ne_eqb _ 2 c.if-kind-eq2.false)
