-- `certify_reader::check_rows` meets its contract: each return is a case of `check_bare_rows`, over what the tests of the rows' order and
-- of the nodes out of service ensure. Assumes nothing.
use Prim.Native.Nat.{◌+◌, ◌*◌, ◌^◌, ◌≤◌, ◌<◌}
use native.Mathlib.Omega.{arith}
use native.Mathlib.Nat.{mul-le-mul}
use mathlib.Core.Path.{◌≡◌, ◌∙◌}
use Rattle.refusal.proofs.Answered.{passed-on}
use lib.ListN.{length}
use Rattle.refusal.proofs.Checked.{verdict-good, verdict-refused}
use Rattle.packing.specs.Rows.{rows_at}
use Rattle.certify.proofs.Answered.{rows_short, rows_long, rows-unordered, rows_last}
use borrow.Author.Rules.{rules}
use Rattle.certify_reader.proofs.check_rows.Goals as goal

pub overflow_mul-end : goal.overflow_mul-end
overflow_mul-end c = omega (arith, (let fits-here : (c.args.b * c.args.base.r ≤ 20_480) × (c.args.at ≤ length c.args.bytes.now) × (length c.args.bytes.now < 2 ^ 63) = (mul-le-mul c.requires.b_bound.0 c.requires.b_bound.1, c.requires.b_bound.2, omega (arith, c.well_formed.0)) in fits-here))

pub overflow_add-end : goal.overflow_add-end
overflow_add-end c = omega (arith, (let fits-here : (c.args.b * c.args.base.r ≤ 20_480) × (c.args.at ≤ length c.args.bytes.now) × (length c.args.bytes.now < 2 ^ 63) = (mul-le-mul c.requires.b_bound.0 c.requires.b_bound.1, c.requires.b_bound.2, omega (arith, c.well_formed.0)) in fits-here))

pub returns-then-bytes-end : goal.returns-then-bytes-end
returns-then-bytes-end c = rows_short _ _ _ _ c.if-bytes-end.true

pub returns-then-end-bytes : goal.returns-then-end-bytes
returns-then-end-bytes c = rows_long _ _ _ _ c.if-end-bytes.true

pub check_ascending-requires : goal.check_ascending-requires
unfolding rows_at
check_ascending-requires c = record { r_in_bounds = search rules; start_le_rows = search rules; all = tt }

pub returns-in_err-check_ascending : goal.returns-in_err-check_ascending
returns-in_err-check_ascending c =
    passed-on _ c.from_residual.ensures.1
    ∙ rows-unordered _ _ _ _ ((let ends-here : c.args.at + c.args.b * c.args.base.r ≡ length c.args.bytes.now = omega (arith, c.if-end-bytes.false, c.if-bytes-end.false) in ends-here)) (verdict-refused _ c.check_ascending.ensures c.in_err-check_ascending.was)

pub check_service-requires : goal.check_service-requires
check_service-requires c =
    record { r_in_bounds = omega (arith, (let ends-here : c.args.at + c.args.b * c.args.base.r ≡ length c.args.bytes.now = omega (arith, c.if-end-bytes.false, c.if-bytes-end.false) in ends-here)); dark_fits = c.requires.dark_fits }

pub returns : goal.returns
returns c =
    rows_last _ _ _ _ ((let ends-here : c.args.at + c.args.b * c.args.base.r ≡ length c.args.bytes.now = omega (arith, c.if-end-bytes.false, c.if-bytes-end.false) in ends-here)) (verdict-good _ c.check_ascending.ensures c.in_ok-check_ascending.was).1 c.check_service.ensures
