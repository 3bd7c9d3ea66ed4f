use native.Mathlib.Omega.{arith}
use Rattle.crowding_pairs.proofs.Cells.{triangle-le, after-start, after_next, after_small, after-all}
use Rattle.crowding_pairs.proofs.count.count_after.Goals as goal

pub loop-node-init : goal.loop-node-init
loop-node-init c = after-start

pub overflow_mul-p : goal.overflow_mul-p
overflow_mul-p c = omega (arith, triangle-le c.from-v.result (omega arith))

pub bounds-table-p : goal.bounds-table-p
bounds-table-p c = omega (arith, triangle-le c.from-v.result (omega arith), c.loop-node.invariant.same, c.requires.room.cells)

pub overflow_add-table : goal.overflow_add-table
overflow_add-table c =
    record { fits = after_small c.loop-node.invariant c.loop-node-test.true c.requires.room _ _ (omega arith) }

pub loop-node-preserved : goal.loop-node-preserved
loop-node-preserved c =
    let fits = triangle-le c.from-v.result (omega arith) in
    let byte = c.from-v.ensures in
    rw byte (after_next c.loop-node.invariant c.loop-node-test.true (omega (arith, rw byte at fits, c.loop-node.invariant.same, c.requires.room.cells)))

pub returns : goal.returns
returns c = after-all c.loop-node.invariant c.loop-node-test.false
