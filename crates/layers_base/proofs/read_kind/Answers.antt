-- `layers_base::read_kind` meets its contract: each return is a case of `read_kind`, over what `read_number` ensures of its answer.
-- Assumes nothing.
use mathlib.Core.Path.{sym, ◌∙◌}
use Rattle.refusal.proofs.Answered.{passed-on}
use Rattle.layers_base.proofs.Based.{kind-not-read, kind-is, kind-is-not}
use Rattle.layers_base.proofs.read_kind.Goals as goal

pub returns-in_err-number : goal.returns-in_err-number
returns-in_err-number c =
    passed-on _ c.from_residual.ensures.1 ∙ sym c.in_err-number.was
    ∙ kind-not-read _ _ _ c.read_number.ensures c.in_err-number.was

pub returns-then-not-is_kind : goal.returns-then-not-is_kind
returns-then-not-is_kind c =
    kind-is-not _ _ _ c.read_number.ensures c.in_ok-number.was (sym c.is_kind.ensures ∙ c.if-not-is_kind.true)

pub returns : goal.returns
returns c =
    kind-is _ _ _ c.read_number.ensures c.in_ok-number.was (sym c.is_kind.ensures ∙ c.if-not-is_kind.false)
