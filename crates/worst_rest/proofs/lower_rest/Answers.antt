use Prim.Native.Nat.{◌-◌, ◌<◌}
use native.Mathlib.Omega.{arith}
use mathlib.Core.Path.{◌≡◌, subst}
use lib.ListN.{length, get_or, take}
use Rattle.worst.specs.Records.{HitsOf}
use Rattle.worst.proofs.Rest.{leaving-asks, leaving-next, leaving-from}
use Rattle.worst_rest.proofs.lower_rest.Goals as goal

pub loop-place-init : goal.loop-place-init
loop-place-init c = (c.requires.chosen_le_k.0, c.requires.chosen_le_k.2)

pub lower-requires : goal.lower-requires
lower-requires c =
    let place = c.loop-place.place - 1 in
    let inside : place < length c.args.set.now = omega (arith, c.requires.chosen_le_k.1) in
    let node : get_or c.args.set.now place 0 < 256 = omega (arith, c.type_inv.set place) in
    let counted = leaving-from c.args.index.now _ c.loop-place.hits c.loop-place.place (omega arith) c.loop-place.invariant.1 in
    leaving-asks _ c.requires.index c.args.set.now c.loop-place.hits place c.loop-place.auto.hits inside node counted c.entries_of-entries.ensures

pub loop-place-preserved : goal.loop-place-preserved
loop-place-preserved c =
    let place = c.loop-place.place - 1 in
    let inside : place < length c.args.set.now = omega (arith, c.requires.chosen_le_k.1) in
    let node : get_or c.args.set.now place 0 < 256 = omega (arith, c.type_inv.set place) in
    let counted = leaving-from c.args.index.now _ c.loop-place.hits c.loop-place.place (omega arith) c.loop-place.invariant.1 in (
      omega arith,
      leaving-next _ c.requires.index c.args.set.now c.loop-place.hits place c.loop-place.auto.hits inside node counted c.entries_of-entries.ensures c.lower.ensures,
    )

pub returns : goal.returns
returns c =
    let e : c.loop-place.place ≡ c.args.chosen = omega arith in
    subst (λ p. HitsOf c.args.index.now (take p c.args.set.now) (length c.args.hits.now) c.loop-place.hits) e c.loop-place.invariant.1
