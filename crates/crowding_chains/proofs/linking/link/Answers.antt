use Prim.Native.Nat.{◌+◌, ◌<◌}
use mathlib.Core.Path.{refl, sym, ◌∙◌}
use lib.ListN.{length, get_or, length-set}
use Rattle.lists.proofs.Largest.{largest-set}
use Rattle.crowding.specs.Chains.{chain}
use Rattle.crowding.proofs.Lengths.{slices-kept}
use Rattle.crowding.proofs.Follow.{linked-all, turn-linked, turn-fresh, turn-kept, at-most-set}
use native.Mathlib.Omega.{arith}
use Rattle.crowding_chains.proofs.linking.link.Goals as goal

pub loop-f-init : goal.loop-f-init
loop-f-init c =
    let pre = c.requires in
    record {
      on = omega arith;
      slices = pre.slices;
      all-next = refl;
      below = λ v. omega (arith, pre.below v);
      longest = pre.longest;
      fresh = pre.fresh;
      chains = λ v. refl;
      kept = λ p o. refl;
    }

pub loop-f-preserved : goal.loop-f-preserved
loop-f-preserved c =
    let i = c.loop-f.invariant in
    let rows = c.args.rows.now in
    let to = c.args.span.to in
    let v = get_or rows c.loop-f.f 0 in
    let n = get_or c.loop-f.counts v 0 + 1 in
    let is_byte_lem : v < 256 = omega (arith, c.type_inv.rows c.loop-f.f) in
    let counted : v < length c.loop-f.counts = omega (arith, i.slices.all-counts) in
    let entry : c.loop-f.f < length c.loop-f.next = omega (arith, i.slices.entries, c.requires.inside) in
    let more = c.loop-f-test.true in
    rw c.from-v.ensures record {
      on = omega arith;
      slices = slices-kept i.slices (length-set c.loop-f.heads v c.loop-f.f) (length-set c.loop-f.counts v n)
          (length-set c.loop-f.next c.loop-f.f (get_or c.loop-f.heads v 0));
      all-next = length-set c.loop-f.next c.loop-f.f (get_or c.loop-f.heads v 0) ∙ i.all-next;
      below = at-most-set c.loop-f.counts v n counted _ _ i.below (omega arith) (omega (arith, i.below v));
      longest = omega (arith, c.max-longest.ensures, rw c.from-v.ensures at c.from.ensures, i.longest, largest-set c.loop-f.counts v n counted (omega arith));
      fresh = turn-fresh rows c.loop-f.heads c.loop-f.counts c.loop-f.next c.loop-f.f to n i.slices.all-heads i.slices.all-counts entry more is_byte_lem refl i.fresh;
      chains = λ u. turn-linked rows c.loop-f.heads c.loop-f.counts c.loop-f.next c.loop-f.f to n i.slices.all-heads i.slices.all-counts entry more is_byte_lem refl
          i.fresh u ∙ i.chains u;
      kept = turn-kept c.args.next.now c.loop-f.next c.args.span.from c.loop-f.f to (get_or c.loop-f.heads v 0) i.on more i.kept;
    }

pub returns : goal.returns
returns c =
    let a = c.args in
    record {
      chains = λ v. sym (linked-all a.rows.now v c.loop-f.f a.span.to (chain c.loop-f.heads c.loop-f.counts c.loop-f.next v) (omega arith))
          ∙ c.loop-f.invariant.chains v;
      longest = c.loop-f.invariant.longest;
      kept = c.loop-f.invariant.kept;
    }
