use Prim.Native.Nat.{◌+◌}
use native.Mathlib.Omega.{arith}
use mathlib.Core.Path.{refl}
use Rattle.worst.specs.Records.{lost_to}
use Rattle.worst.proofs.Turns.{lose-next, lost_to-le}
use Rattle.worst_hits.proofs.lose.Goals as goal

pub loop-seen-init : goal.loop-seen-init
unfolding lost_to
loop-seen-init c = refl

pub overflow_add-lost : goal.overflow_add-lost
overflow_add-lost c =
    omega (
      arith,
      lose-next _ _ _ _ _ c.record_at-record.ensures c.loop-seen.invariant c.reaches-lost.ensures,
      lost_to-le c.args.s c.args.index.now c.args.hits.now c.args.entries.from (c.loop-seen.seen + 1),
    )

pub loop-seen-preserved : goal.loop-seen-preserved
loop-seen-preserved c = lose-next _ _ _ _ _ c.record_at-record.ensures c.loop-seen.invariant c.reaches-lost.ensures
