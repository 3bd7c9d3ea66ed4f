use mathlib.Core.Path.{sym, ◌∙◌}
use Rattle.number.proofs.Within.{number_read-value, number_read-refused}
use Rattle.text.proofs.Numbers.{given_holds, given-all, given-unread, given-again}
use Rattle.text_code.proofs.given.read_given.Goals as goal

pub loop-i-init : goal.loop-i-init
loop-i-init c = given_holds _ _ _

pub returns-in_default : goal.returns-in_default
returns-in_default c =
    given-unread c.loop-i.invariant c.loop-i-test.true (number_read-refused _ (sym c.in_default.is ∙ c.read_one.ensures))

pub loop-i-preserved : goal.loop-i-preserved
loop-i-preserved c =
    given-again c.loop-i.invariant c.loop-i-test.true (number_read-value _ (sym c.in-Ok.is ∙ c.read_one.ensures))

pub returns : goal.returns
returns c = given-all c.loop-i.invariant c.loop-i-test.false c.end_given-end.ensures
