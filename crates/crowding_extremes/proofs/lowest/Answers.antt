use Prim.Native.Nat.{◌+◌, ◌-◌, ◌<◌}
use native.Mathlib.Omega.{arith}
use mathlib.Core.Path.{◌≡◌, ◌∙◌}
use lib.ListN.{length}
use Rattle.crowding.proofs.Follow.{all-follow, lowest-next, lowest-end}
use Rattle.crowding_extremes.proofs.lowest.Goals as goal

pub offset_bounds-next-p : goal.offset_bounds-next-p
offset_bounds-next-p c =
    let next = c.args.next.now in
    omega (arith, (all-follow (λ q. q < length next) (c.args.chain.count - c.loop.counter) next c.loop.p (omega arith) c.loop.invariant.0).0)

pub bounds-next-p : goal.bounds-next-p
bounds-next-p c =
    let next = c.args.next.now in
    (all-follow (λ q. q < length next) (c.args.chain.count - c.loop.counter) next c.loop.p (omega arith) c.loop.invariant.0).0

pub loop-preserved : goal.loop-preserved
loop-preserved c =
    let next = c.args.next.now in
    let left = c.args.chain.count - c.loop.counter in
    let turn : c.args.chain.count - (c.loop.counter + 1) ≡ left - 1 = omega arith in
    rw (turn, c.from-p-in-loop.ensures, c.min-low.ensures) (
      (all-follow (λ q. q < length next) left next c.loop.p (omega arith) c.loop.invariant.0).1,
      lowest-next c.args.r left c.loop.low next c.loop.p (omega arith) ∙ c.loop.invariant.1,
    )

pub returns : goal.returns
returns c =
    lowest-end c.args.r (c.args.chain.count - c.loop.counter) c.loop.low c.args.next.now c.loop.p (omega arith) ∙ c.loop.invariant.1
