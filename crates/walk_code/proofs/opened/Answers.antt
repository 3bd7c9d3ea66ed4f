-- `walk_code::opened` meets its contract: the checker's answer, as that of opening. Assumes nothing.
use mathlib.Core.Path.{◌∙◌}
use Rattle.refusal.proofs.Answered.{passed-on}
use Rattle.walk_code.proofs.Opening.{opened_of-checked}
use Rattle.walk_code.proofs.opened.Goals as goal

pub returns-in_err-head : goal.returns-in_err-head
returns-in_err-head c =
    passed-on _ c.from_residual.ensures.1 ∙ opened_of-checked _ _ c.check_placement-checked.ensures c.in_err-head.was

pub returns : goal.returns
returns c = opened_of-checked _ _ c.check_placement-checked.ensures c.in_ok-head.was
