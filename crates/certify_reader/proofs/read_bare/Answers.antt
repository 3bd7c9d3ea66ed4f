-- `certify_reader::read_bare` meets its contract: each return is a case of `read_bare`, over what reading the numbers and checking the
-- rows ensure. Assumes nothing.
use native.Mathlib.Omega.{arith}
use mathlib.Core.Path.{sym, ◌∙◌, ap}
use Rattle.refusal.proofs.Answered.{passed-on, answered-err}
use Rattle.refusal.proofs.Checked.{verdict-good, verdict-refused}
use Rattle.certify.specs.Answers.{bare_read}
use Rattle.certify.specs.Bare.{read_start, read_order, check_bare_rows}
use Rattle.certify.proofs.Answered.{start-good, order-good, no_start, no-order, order-within, order-inside, no_rows, all-answered}
use Rattle.certify_reader.proofs.read_bare.Goals as goal

pub returns-in_err-start : goal.returns-in_err-start
returns-in_err-start c =
    passed-on _ c.from_residual.ensures.1
    ∙ sym (ap bare_read (no_start _ (answered-err _ (read_start _) c.read_start.ensures c.in_err-start.was)))

pub read_order-requires : goal.read_order-requires
read_order-requires c = omega (arith, (start-good _ c.read_start.ensures c.in_ok-start.was).held.limits.n-least)

pub returns-in_err-numbers : goal.returns-in_err-numbers
returns-in_err-numbers c =
    let start = start-good _ c.read_start.ensures c.in_ok-start.was in
    passed-on _ c.from_residual-in_err-numbers.ensures.1
    ∙ sym (ap bare_read (no-order _ start.accepts (answered-err _ (read_order _ _ _) c.read_order.ensures c.in_err-numbers.was)))

pub check_rows-requires : goal.check_rows-requires
check_rows-requires c =
    let start = start-good _ c.read_start.ensures c.in_ok-start.was in
    let order = order-good _ c.read_order.ensures c.in_ok-numbers.was in
    let two = start.held.limits.n-least in
    record {
      b_bound = (
        (order-within _ start.accepts order two).b-most,
        start.held.limits.r-most,
        order-inside _ start.accepts order two start.inside,
      );
      dark_fits = start.fits;
    }

pub returns-in_err-check_rows : goal.returns-in_err-check_rows
returns-in_err-check_rows c =
    let start = start-good _ c.read_start.ensures c.in_ok-start.was in
    let order = order-good _ c.read_order.ensures c.in_ok-numbers.was in
    passed-on _ c.from_residual-in_err-check_rows.ensures.1
    ∙ sym (ap bare_read (no_rows _ start.accepts order (verdict-refused (check_bare_rows _ _ _ _) c.check_rows.ensures c.in_err-check_rows.was)))

pub returns : goal.returns
returns c =
    let start = start-good _ c.read_start.ensures c.in_ok-start.was in
    let order = order-good _ c.read_order.ensures c.in_ok-numbers.was in
    let (rows, taken) = verdict-good (check_bare_rows _ _ _ _) c.check_rows.ensures c.in_ok-check_rows.was in
    all-answered _ _ _ start order taken
