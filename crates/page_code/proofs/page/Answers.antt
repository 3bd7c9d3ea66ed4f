-- `page_code::page` meets its contract: the refusal of the placement's check, or the page from its numbers. Assumes nothing.
use mathlib.Core.Path.{refl}
use Rattle.refusal.proofs.Answered.{passed-on}
use Rattle.page.proofs.Page.{page-asked, page-of-check, page-of-refused}
use Rattle.page_code.proofs.page.Goals as goal

pub write_accepted-requires : goal.write_accepted-requires
write_accepted-requires c =
    page-asked _ c.check_placement-check.ensures c.in_ok-head.was

pub returns-in_err-head : goal.returns-in_err-head
returns-in_err-head c =
    rw (passed-on _ c.from_residual.ensures.1, page-of-refused _ c.check_placement-check.ensures c.in_err-head.was _)
    (record { answer = refl; output-after = refl })

pub returns : goal.returns
returns c =
    rw (page-of-check _ c.check_placement-check.ensures c.in_ok-head.was _)
    c.write_accepted.ensures
