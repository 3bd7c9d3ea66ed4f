use Rattle.split_lines.proofs.Raising.{raised-none, raised-next, records-le, by-record}
use native.Mathlib.Omega.{arith}
use Rattle.split_lines.proofs.step_by_records.Goals as goal

pub loop-i-init : goal.loop-i-init
loop-i-init c = raised-none c.requires.1

pub overflow_add-records : goal.overflow_add-records
overflow_add-records c = let h = records-le c.requires.1 c.loop-i.invariant in omega arith

pub loop-i-preserved : goal.loop-i-preserved
loop-i-preserved c =
    let turn = c.loop-i-test.true in
    let raised = c.loop-i.invariant in
    let below = c.requires.1 in
    let e = rw c.from-under.ensures at c.min-records.ensures in
    raised-next below raised turn c.min-records.result c.min-records.result e (by-record below raised turn e)
