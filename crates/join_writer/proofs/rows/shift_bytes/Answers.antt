use native.Mathlib.Omega.{arith}
use Rattle.join.proofs.Bytes.{shift-next}
use Rattle.join_writer.proofs.rows.shift_bytes.Goals as goal

pub loop-place-preserved : goal.loop-place-preserved
loop-place-preserved c =
    shift-next c.args.before c.args.bytes.now c.args.out.now c.loop-place.out c.loop-place.place c.loop-place.invariant (omega arith) (omega arith)
