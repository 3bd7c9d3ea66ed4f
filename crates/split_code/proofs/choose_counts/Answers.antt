use Prim.Native.Nat.{◌-◌}
use mathlib.Core.Path.{◌≡◌}
use Rattle.split_code.proofs.Choosing.{choosing-none, choosing-next, choosing-all, count-le}
use native.Mathlib.Omega.{arith}
use Rattle.split_code.proofs.choose_counts.Goals as goal

pub loop-x-init : goal.loop-x-init
loop-x-init c = choosing-none c.requires.0

pub overflow_sub-left : goal.overflow_sub-left
overflow_sub-left c = count-le c.requires.0 c.loop-x.invariant c.layer_count-c.ensures

pub loop-x-preserved : goal.loop-x-preserved
loop-x-preserved c = choosing-next c.requires.0 c.loop-x.invariant (omega arith) c.layer_count-c.ensures

pub returns : goal.returns
returns c =
    let e : c.loop-x.x - 1 ≡ 0 = omega arith in
    record {
      counts = choosing-all c.requires.0 (rw e at c.loop-x.invariant);
      same_length = c.fill.ensures.same_length;
      rest = c.fill.ensures.rest;
    }
