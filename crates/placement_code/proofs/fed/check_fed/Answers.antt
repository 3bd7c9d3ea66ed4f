-- `placement_code::fed::check_fed` meets its contract: each return is a case of `check_records` of kind 6, over what reading the feeders and
-- testing the rows ensure. Assumes nothing.
use Prim.Native.Nat.{◌+◌, ◌*◌, ◌≤◌}
use native.Mathlib.Omega.{arith}
use mathlib.Core.Path.{sym, ◌∙◌, ap}
use lib.ListN.{take}
use Rattle.refusal.proofs.Answered.{passed-on, answered-err}
use Rattle.layers.specs.Answers.{site_of}
use Rattle.placement.specs.Answers.{records_check}
use Rattle.placement.specs.Feeders.{read_numbered}
use Rattle.crowding_code.proofs.AllRows.{rows-small}
use Rattle.placement_code.proofs.FedAnswers.{was_read, fed-short, fed-unread, fed-fits, fed-long, fed-refused, fed-good}
use Rattle.placement_code.proofs.fed.check_fed.Goals as goal

pub count_rows-rows-requires : goal.count_rows-rows-requires
count_rows-rows-requires c =
    let p = c.requires.rows in
    (omega (arith, p.few, p.r-most), p.rows-most)

pub overflow_mul-end : goal.overflow_mul-end
overflow_mul-end c = omega (
  arith,
  (let fits-here : (c.count_rows-rows.result * c.args.base.r ≤ 20480) × (c.args.at ≤ 1092) = let p = c.requires.rows in
      let few = p.rows-most in
      (rows-small (omega arith) p.r-most, p.start-most) in fits-here),
)

pub overflow_add-end : goal.overflow_add-end
overflow_add-end c = omega (
  arith,
  (let fits-here : (c.count_rows-rows.result * c.args.base.r ≤ 20480) × (c.args.at ≤ 1092) = let p = c.requires.rows in
      let few = p.rows-most in
      (rows-small (omega arith) p.r-most, p.start-most) in fits-here),
)

pub returns-then-bytes-end : goal.returns-then-bytes-end
returns-then-bytes-end c =
    ap records_check (sym (fed-short _ _ _ _ _ _ c.count_rows-rows.ensures c.requires.n-most c.if-bytes-end.true))

pub read_feeders-requires : goal.read_feeders-requires
read_feeders-requires c =
    let p = c.requires in
    (p.k-most, p.r-nodes, p.n-most)

pub returns-in_err-read : goal.returns-in_err-read
returns-in_err-read c =
    passed-on _ c.from_residual.ensures.1
    ∙ ap records_check (sym (fed-unread _ _ _ _ _ _ c.count_rows-rows.ensures c.requires.n-most c.if-bytes-end.false
    (answered-err _ (read_numbered _ _ _ _ _) c.read_feeders.ensures c.in_err-read.was)))

pub returns-then-next-bytes : goal.returns-then-next-bytes
returns-then-next-bytes c =
    ap records_check (sym (fed-long _ _ _ _ _ _ c.count_rows-rows.ensures c.requires.n-most c.if-bytes-end.false (was_read _ c.read_feeders.ensures c.in_ok-read.was) c.if-next-bytes.true))

pub check_rows-requires : goal.check_rows-requires
check_rows-requires c =
    let p = c.requires in
    let bytes = ap (λ rows. rows * c.args.base.r) c.count_rows-rows.ensures in
    record {
      rows = p.rows;
      inside = omega (arith, c.if-bytes-end.false);
      dark = p.dark;
      k = c.args.terms.k;
      n-most = p.n-most;
      fits = fed-fits (site_of c.args.base) _ (take c.args.terms.s c.args.heads) _ _ _ c.count_rows-rows.ensures p.n-most c.if-bytes-end.false (was_read _ c.read_feeders.ensures c.in_ok-read.was);
    }

pub returns-in_err-check_rows : goal.returns-in_err-check_rows
returns-in_err-check_rows c =
    passed-on _ c.from_residual-in_err-check_rows.ensures.1
    ∙ ap records_check (sym (fed-refused _ _ _ _ _ _ c.count_rows-rows.ensures c.requires.n-most c.if-bytes-end.false (was_read _ c.read_feeders.ensures c.in_ok-read.was) c.if-next-bytes.false
    c.check_rows.ensures c.in_err-check_rows.was))

pub returns : goal.returns
returns c =
    fed-good _ _ _ _ _ _ c.count_rows-rows.ensures c.requires.n-most c.if-bytes-end.false (was_read _ c.read_feeders.ensures c.in_ok-read.was) c.if-next-bytes.false
    c.check_rows.ensures c.in_ok-check_rows.was
