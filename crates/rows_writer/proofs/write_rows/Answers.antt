use native.Mathlib.Omega.{arith}
use Rattle.rows_writer.proofs.Runs.{run-first, run_fits, run-next}
use Rattle.rows_writer.proofs.write_rows.Goals as goal

pub loop-written-init : goal.loop-written-init
loop-written-init c =
    let q = c.requires in
    run-first _ _ (q.r_in_bounds, (q.r_in_bounds_2, q.m_nonzero)) c.min-once.ensures c.copy_bytes.ensures

pub copy_within-requires-clause-dest_in_bounds : goal.copy_within-requires-clause-dest_in_bounds
copy_within-requires-clause-dest_in_bounds c =
    let q = c.requires in
    let fits = run_fits _ c.loop-written.invariant (q.r_in_bounds, (q.r_in_bounds_2, q.m_nonzero)) c.loop-written-test.true c.min-more.ensures in
    omega arith

pub loop-written-preserved : goal.loop-written-preserved
loop-written-preserved c =
    let q = c.requires in
    run-next _ c.loop-written.invariant (q.r_in_bounds, (q.r_in_bounds_2, q.m_nonzero)) c.loop-written-test.true c.min-more.ensures _ c.copy_within.ensures.after
