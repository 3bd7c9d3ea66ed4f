-- `certify_reader::start::read_seven` meets its contract: each return is a case of `read_seven`, over what `read_number`
-- ensures. Assumes nothing.
use mathlib.Core.Path.{sym, ◌∙◌}
use borrow.Author.Tests.{eq-eqb, ne_eqb}
use Rattle.refusal.proofs.Answered.{passed-on}
use Rattle.certify_reader.proofs.start.Started.{kind-not-read, kind-is, kind-is-not}
use Rattle.certify_reader.proofs.start.read_seven.Goals as goal

pub returns-in_err-number : goal.returns-in_err-number
returns-in_err-number c =
    passed-on _ c.from_residual.ensures.1 ∙ sym c.in_err-number.was ∙ kind-not-read _ _ c.read_number.ensures c.in_err-number.was

pub returns-then-v-eq7 : goal.returns-then-v-eq7
returns-then-v-eq7 c =
    kind-is _ _ c.read_number.ensures c.in_ok-number.was (eq-eqb _ 7 c.if-v-eq7.true)

pub returns : goal.returns
returns c =
    kind-is-not _ _ c.read_number.ensures c.in_ok-number.was (ne_eqb _ 7 c.if-v-eq7.false)
