use Prim.Native.Nat.{◌+◌, ◌<◌}
use mathlib.Core.Path.{refl, ◌∙◌}
use lib.ListN.{length, get_or, length-set}
use Rattle.lists.proofs.Largest.{largest-set}
use Rattle.crowding.proofs.Follow.{at-most-set}
use Rattle.crowding.proofs.Times.{count_turn, times-end}
use native.Mathlib.Omega.{arith}
use Rattle.crowding_counts.proofs.count_nodes.Goals as goal

pub loop-f-init : goal.loop-f-init
loop-f-init c =
    let pre = c.requires in
    record {
      on = omega arith;
      all-counts = pre.all-counts;
      below = pre.below;
      longest = pre.longest;
      counted = λ v. refl;
    }

pub loop-f-preserved : goal.loop-f-preserved
loop-f-preserved c =
    let i = c.loop-f.invariant in
    let rows = c.args.rows.now in
    let v = c.from-v.result in
    let n = get_or c.loop-f.counts v 0 + 1 in
    let inside : v < length c.loop-f.counts = omega (arith, i.all-counts) in
    let room = c.requires.few in
    record {
      on = omega arith;
      all-counts = length-set c.loop-f.counts v n ∙ i.all-counts;
      below = at-most-set c.loop-f.counts v n inside _ _ i.below (omega arith) (omega (arith, i.below v));
      longest = omega (arith, c.max-largest.ensures, c.from.ensures, i.longest, largest-set c.loop-f.counts v n inside (omega arith));
      counted = λ u. rw c.from-v.ensures (count_turn rows c.loop-f.counts c.loop-f.f c.args.span.to _ c.loop-f-test.true (rw c.from-v.ensures at inside) refl u) ∙ i.counted u;
    }

pub returns : goal.returns
returns c =
    record {
      counted = λ v. omega (arith, times-end c.args.rows.now v c.loop-f.f c.args.span.to (omega arith), c.loop-f.invariant.counted v);
      longest = c.loop-f.invariant.longest;
    }
