-- `number_code::within::read_within` meets its contract: each return is a case of `read_within`, over what `read_number` ensures of its
-- answer. Assumes nothing.
use native.Mathlib.Omega.{arith}
use mathlib.Core.Path.{sym, ◌∙◌}
use Rattle.refusal.proofs.Answered.{passed-on}
use Rattle.number.proofs.Within.{answer-refused, answer-below, answer-above, answer-within}
use Rattle.number_code.proofs.within.read_within.Goals as goal

pub returns-in_err-number : goal.returns-in_err-number
returns-in_err-number c =
    passed-on _ c.from_residual.ensures.1 ∙ sym c.in_err-number.was
    ∙ answer-refused _ _ _ _ _ c.read_number.ensures c.in_err-number.was

pub returns-then-v-lo : goal.returns-then-v-lo
returns-then-v-lo c =
    answer-below _ _ _ _ _ c.read_number.ensures c.in_ok-number.was
    (omega arith)

pub returns-then-hi-v : goal.returns-then-hi-v
returns-then-hi-v c =
    answer-above _ _ _ _ _ c.read_number.ensures
    c.in_ok-number.was (omega arith) (omega arith)

pub returns : goal.returns
returns c =
    answer-within _ _ _ _ _ c.read_number.ensures
    c.in_ok-number.was (omega arith) (omega arith)
