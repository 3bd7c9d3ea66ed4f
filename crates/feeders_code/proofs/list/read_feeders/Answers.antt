-- `feeders_code::list::read_feeders` meets its contract: each return is a case of `read_numbered`, over what the reading of the number
-- and of the feeders ensures. Assumes nothing.
use mathlib.Core.Path.{sym, ◌∙◌, ap}
use Rattle.refusal.proofs.Answered.{passed-on}
use Rattle.number.specs.Numbers.{read_within}
use Rattle.number.proofs.Within.{was_read, was-refused}
use Rattle.placement.specs.Answers.{feeders_read}
use Rattle.feeders_code.proofs.list.EachLoop.{no_number, number-read, number_fits}
use Rattle.feeders_code.proofs.list.read_feeders.Goals as goal

pub returns-in_err-g : goal.returns-in_err-g
returns-in_err-g c =
    let none = was-refused (read_within _ _ _ _) c.read_within.ensures c.in_err-g.was in
    passed-on _ c.from_residual.ensures.1 ∙ sym (ap feeders_read (no_number _ _ _ _ _ _ c.max-least.ensures none))

pub read_each-requires : goal.read_each-requires
read_each-requires c =
    let g = was_read (read_within _ _ _ _) c.read_within.ensures c.in_ok-g.was in
    number_fits _ _ _ _ _ _ c.max-least.ensures g c.requires.2

pub returns : goal.returns
returns c =
    let g = was_read (read_within _ _ _ _) c.read_within.ensures c.in_ok-g.was in
    c.read_each.ensures ∙ sym (ap feeders_read (number-read _ _ _ _ _ _ c.max-least.ensures g))
