use native.Mathlib.Omega.{arith}
use Prim.Native.Nat.{◌+◌, ◌*◌}
use mathlib.Core.Path.{◌≡◌}
use lib.ListN.{length, length-map}
use Rattle.join.proofs.Bytes.{copying-none, copying-next}
use Rattle.join_writer.proofs.rows.write_copies.Goals as goal

pub loop-done-init : goal.loop-done-init
loop-done-init c =
    let e : 0 * length c.args.bytes.now ≡ 0 = omega arith in
    rw e (copying-none _ _ _)

pub loop-done-preserved : goal.loop-done-preserved
loop-done-preserved c =
    let e : (c.loop-done.done + 1) * length c.args.bytes.now ≡ c.loop-done.done * length c.args.bytes.now + length c.args.bytes.now = omega arith in
    let long = length-map c.args.bytes.now (λ v. c.args.before + v) in
    rw e (rw long at (copying-next c.loop-done.invariant (rw long c.requires.bytes_in_bounds) c.loop-done-test.true c.shift_bytes.new.out c.shift_bytes.ensures))
