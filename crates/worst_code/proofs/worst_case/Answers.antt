-- `worst_code::worst_case` meets its contract: the refusal of the placement's check, or what its rows give, by nodes or by feeders.
-- Assumes nothing.
use native.Mathlib.Omega.{arith}
use mathlib.Core.Path.{refl}
use Rattle.refusal.proofs.Answered.{passed-on}
use Rattle.worst.proofs.Call.{worst-inside, worst-asked, worst-of-check, fed-asked, worst-of-fed, worst-of-refused}
use Rattle.worst_code.proofs.worst_case.Goals as goal

pub overflow_mul-end : goal.overflow_mul-end
overflow_mul-end c =
    omega (arith, worst-inside _ c.check_placement-check.ensures c.in_ok-head.was, c.well_formed)

pub overflow_add-end : goal.overflow_add-end
overflow_add-end c =
    omega (arith, worst-inside _ c.check_placement-check.ensures c.in_ok-head.was, c.well_formed)

pub slice_bounds-worst_of_rows-end : goal.slice_bounds-worst_of_rows-end
slice_bounds-worst_of_rows-end c =
    omega (arith, worst-inside _ c.check_placement-check.ensures c.in_ok-head.was, c.well_formed)

pub worst_of_rows-requires : goal.worst_of_rows-requires
worst_of_rows-requires c =
    worst-asked _ c.check_placement-check.ensures c.in_ok-head.was c.if-table-eq0.true

pub returns-then-table-eq0 : goal.returns-then-table-eq0
returns-then-table-eq0 c =
    rw (worst-of-check _ c.check_placement-check.ensures c.in_ok-head.was c.if-table-eq0.true _) c.worst_of_rows.ensures

pub slice_bounds-worst_of_feeders-end : goal.slice_bounds-worst_of_feeders-end
slice_bounds-worst_of_feeders-end c =
    omega (arith, worst-inside _ c.check_placement-check.ensures c.in_ok-head.was, c.well_formed)

pub worst_of_feeders-requires : goal.worst_of_feeders-requires
worst_of_feeders-requires c =
    fed-asked _ c.check_placement-check.ensures c.in_ok-head.was c.if-table-eq0.false

pub returns-in_err-head : goal.returns-in_err-head
returns-in_err-head c =
    rw (passed-on _ c.from_residual.ensures.1, worst-of-refused _ c.check_placement-check.ensures c.in_err-head.was _)
    (record { answer = refl; output-after = refl })

pub returns : goal.returns
returns c =
    rw (worst-of-fed _ c.check_placement-check.ensures c.in_ok-head.was c.if-table-eq0.false _) c.worst_of_feeders.ensures
