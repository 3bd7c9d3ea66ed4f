-- `text_code::given::read_one` meets its contract. Assumes nothing.
use mathlib.Core.Path.{sym, ◌∙◌, ap}
use Rattle.number.specs.Answers.{number_read}
use Rattle.text.proofs.Numbers.{given-none, given-some}
use Rattle.text_code.proofs.given.read_one.Goals as goal

pub returns-then-arguments-eq0 : goal.returns-then-arguments-eq0
returns-then-arguments-eq0 c =
    let a = c.args in
    c.read_number.ensures ∙ sym (ap number_read (given-none a.input.now a.at a.arguments.now c.if-arguments-eq0.true))

pub returns : goal.returns
returns c =
    let a = c.args in
    c.read_decimal.ensures ∙ sym (ap number_read (given-some a.input.now a.at a.arguments.now c.if-arguments-eq0.false))
