use Prim.Native.Nat.{◌+◌, ◌-◌}
use native.Mathlib.Omega.{arith}
use mathlib.Core.Path.{◌≡◌, subst}
use lib.ListN.{set}
use Rattle.worst.proofs.Rest.{Choosing, choosing-start, choosing-asks, choosing-next, choosing-end}
use Rattle.worst_rest.proofs.raise_rest.Goals as goal

pub loop-place-init : goal.loop-place-init
loop-place-init c =
    let first = c.args.search.next.0 in
    let e : first ≡ first + (c.args.search.chosen - c.args.search.chosen) = omega arith in
    subst (λ v. Choosing c.args.search c.args.index.now c.args.hits.now c.args.set.now c.args.search.chosen v c.args.search.usable c.args.hits.now c.args.set.now) e
    (choosing-start c.requires)

pub raise-usable-requires : goal.raise-usable-requires
raise-usable-requires c =
    record { raising = choosing-asks c.requires c.loop-place.invariant c.loop-place-test.true c.entries_of-entries.ensures; usable_value = c.loop-place.invariant.usable-is }

pub loop-place-preserved : goal.loop-place-preserved
loop-place-preserved c =
    let place = c.loop-place.place in
    let first = c.args.search.next.0 in
    let e : first + (place - c.args.search.chosen) + 1 ≡ first + (place + 1 - c.args.search.chosen) = omega arith in
    subst (λ v. Choosing c.args.search c.args.index.now c.args.hits.now c.args.set.now (place + 1) v c.raise-usable.result c.raise-usable.new.hits (set c.loop-place.set place (first + (place - c.args.search.chosen)))) e
    (choosing-next c.requires c.loop-place.invariant c.loop-place-test.true c.entries_of-entries.ensures c.raise-usable.ensures)

pub returns : goal.returns
returns c = choosing-end c.requires c.loop-place.invariant c.loop-place-test.false
