-- `text_code::given::end_given` meets its contract. Assumes nothing.
use mathlib.Core.Path.{sym, ◌∙◌}
use borrow.Author.Tests.{eq-eqb, ne_eqb}
use Rattle.text.proofs.Numbers.{end_none, end-some}
use Rattle.text_code.proofs.given.end_given.Goals as goal

pub returns-then-arguments-eq0 : goal.returns-then-arguments-eq0
returns-then-arguments-eq0 c = let a = c.args in sym (end_none a.at a.arguments.now c.if-arguments-eq0.true)

pub returns-then-at-arguments : goal.returns-then-at-arguments
returns-then-at-arguments c =
    let a = c.args in
    sym (end-some a.at a.arguments.now c.if-arguments-eq0.false ∙ rw (eq-eqb _ _ c.if-at-arguments.true))

pub returns : goal.returns
returns c =
    let a = c.args in
    sym (end-some a.at a.arguments.now c.if-arguments-eq0.false ∙ rw (ne_eqb _ _ c.if-at-arguments.false))
