use native.Mathlib.Omega.{arith}
use lib.ListN.{length-set}
use Rattle.packing.proofs.Load.{counts-next, counts-le}
use Rattle.rows_load.proofs.count_bytes.Goals as goal

pub overflow_add-counts : goal.overflow_add-counts
overflow_add-counts c =
    let few = counts-le c.loop-seen.counts c.args.bytes.now c.loop-seen.seen c.loop-seen.invariant.1 c.from-v.result (omega arith) in
    omega arith

pub loop-seen-preserved : goal.loop-seen-preserved
loop-seen-preserved c = (
  simp length-set c.loop-seen.invariant.0,
  rw c.from-v.ensures (counts-next c.loop-seen.counts c.args.bytes.now c.loop-seen.seen c.loop-seen.invariant.1 c.loop-seen.invariant.0 (omega arith) (omega arith)),
)
