-- The user's demand 2 and demand 3's first sentence as theorems, in the user's words, about what the calls answer. `Bytes`
-- says of a list that its elements are bytes, as every lent slice's are. Assumes nothing.
use Prim.Native.Nat.{ℕ, ◌≤◌, ◌<◌}
use native.Mathlib.Omega.{arith}
use mathlib.Core.Path.{◌≡◌, refl, sym, ◌∙◌, ap}
use mathlib.Core.Logic.{◌↔◌}
use mathlib.Core.Bool.{Bool}
use mathlib.Core.List.{List, ◌∷◌}
use lib.ListN.{length, length-drop}
use Rattle.refusal.specs.Refusals.{result}
use Rattle.refusal.specs.Checked.{Checked, accepted, refused}
use Rattle.number.specs.Numbers.{Bytes}
use Rattle.packing.specs.Rows.{member, records_in}
use Rattle.packing.specs.Failures.{Failure, FailedNodes, usable}
use Rattle.packing.proofs.Failed.{failure-of-nodes}
use Rattle.layers.specs.Layers.{Layer, Located, Stands, heads_of}
use Rattle.pack.specs.Pack.{Pack, PackFile, GoodPack, read_pack}
use Rattle.pack.specs.Answers.{pack_checked, pack_outcome, pack_values}
use Rattle.pack.proofs.Accepted.{read-of-pack, pack-accepted, pack-read, read-pack, pack-told}
use Rattle.placement.specs.Placement.{Placement, PlacementFileAt, GoodPlacement, placement_bytes, read_placement}
use Rattle.placement.specs.declared.Rule.TheVariants.{NestedFloors}
use Rattle.placement.specs.Answers.{placement_checked, placement_outcome, placement_values}
use Rattle.placement.proofs.Accepted.{placement-located-iff}
use Rattle.placement.proofs.Answered.{placement-told}
use Rattle.placement.proofs.Survivors.{survivors}
use Rattle.split.specs.Splits.{Share, Named}
use Rattle.split.proofs.Named.{named-unique}
use Rattle.planner.specs.Planning.{split_placement}
use Rattle.planner.proofs.Placed.{split_placement-congr}
use Rattle.promises.proofs.Says.{not-both, says}

-- rows stand from one place to the end
one_place : (s : List ℕ) (a b : ℕ) (layers : List Layer) → Stands s a layers → Stands s b layers → a ≡ b
one_place s a b layers (ha, da) (hb, db) =
    let e = ap length (da ∙ sym db) in
    omega (arith, length-drop a s, length-drop b s)

-- Demand 2: "A pack .. is accepted exactly when it has document 01's layout, in every layer x no x+1 nodes stand together
-- in more rows than that layer allows". `PackFile` is the layout, `GoodPack` the limits, the list's among them, the rows, that none
-- names a node out of service, and the packings. The answer has the pack's n and r, the place where its blocks stand, mu and m of
-- each layer, and the list.
pub demand-2-pack : (bytes values : List ℕ) → Bytes bytes
    → (pack_outcome (pack_checked (read_pack bytes)) ≡ result values)
    ↔ ((file : Located Pack) × (values ≡ pack_values file) × PackFile file.content bytes
    × Stands bytes file.first file.content.layers
    × GoodPack file.content)
demand-2-pack bytes values h = (λ e. to (read_pack bytes) refl e, from)
  where
    to : (c : Checked (Located Pack)) → read_pack bytes ≡ c → pack_outcome (pack_checked c) ≡ result values
        → (file : Located Pack) × (values ≡ pack_values file) × PackFile file.content bytes
        × Stands bytes file.first file.content.layers
        × GoodPack file.content
    to (accepted file) r e =
        let p = file.content in
        let (f, good) = read-of-pack bytes p file.first r in
        let told = pack-told bytes file r in
        let same : pack_values file ≡ values = cc in
        (file, sym same, read-pack p bytes file.first h f, (f.file.inside, f.file.rest), good)
    to (refused why) r e = absurd (not-both e)

    from : ((file : Located Pack) × (values ≡ pack_values file) × PackFile file.content bytes
        × Stands bytes file.first file.content.layers
        × GoodPack file.content)
        → pack_outcome (pack_checked (read_pack bytes)) ≡ result values
    from (file, same, is-file, stands, good) =
        let p = file.content in
        let (first, f) = pack-read p bytes is-file in
        let place = one_place bytes first file.first p.layers (f.file.inside, f.file.rest) stands in
        let read : read_pack bytes ≡ accepted file =
        pack-accepted bytes p first f good ∙ (λ i. accepted (record { content = p; first = place i })) in
        rw (read, same) (pack-told bytes file read)

-- The same of a placement, "and a placement's figure is the one 01's formula gives", in kinds 3, 5 and 6 that of request (d): the last
-- field of `GoodPlacement`. `PlacementFileAt` is the layout, with the place where the rows stand; of kind 6 too: (n) "after its rows,
-- the number g of feeders .. and a feeder below g for each node". The answer has the placement's kind, n, r, s, k, b and F, that place,
-- lambda and c of each layer, the list, and in kind 6 g and the feeders.
pub demand-2-placement : (bytes values : List ℕ) → Bytes bytes
    → (placement_outcome (placement_checked (read_placement bytes)) ≡ result values)
    ↔ ((file : Located Placement) × (values ≡ placement_values file) × PlacementFileAt file bytes × GoodPlacement file.content)
demand-2-placement bytes values h = (λ e. to (read_placement bytes) refl e, from)
  where
    to : (c : Checked (Located Placement)) → read_placement bytes ≡ c → placement_outcome (placement_checked c) ≡ result values
        → (file : Located Placement) × (values ≡ placement_values file) × PlacementFileAt file bytes × GoodPlacement file.content
    to (accepted file) r e =
        let told = placement-told bytes file r in
        let same : placement_values file ≡ values = cc in
        let (is-file, good) = (placement-located-iff bytes file h).0 r in
        (file, sym same, is-file, good)
    to (refused why) r e = absurd (not-both e)

    from : ((file : Located Placement) × (values ≡ placement_values file) × PlacementFileAt file bytes × GoodPlacement file.content)
        → placement_outcome (placement_checked (read_placement bytes)) ≡ result values
    from (file, same, is-file, good) =
        let read : read_placement bytes ≡ accepted file = (placement-located-iff bytes file h).1 (is-file, good) in
        rw (read, same) (placement-told bytes file read)

-- "the planner writes the one placement that 01 names", by the figure of the nested floors: two splits that are named are one, and so are their placements and
-- the bytes of these.
pub demand-2-one-named : (pack : Pack) (s k b : ℕ) (split other : ℕ → Share)
    → Named NestedFloors (heads_of pack.layers) s k b split → Named NestedFloors (heads_of pack.layers) s k b other
    → ((x : ℕ) → x < s → split x ≡ other x)
    × (split_placement pack s k b split ≡ split_placement pack s k b other)
    × (placement_bytes (split_placement pack s k b split) ≡ placement_bytes (split_placement pack s k b other))
demand-2-one-named pack s k b split other a c =
    let shares = named-unique NestedFloors (heads_of pack.layers) s k b split other a c in
    let same = split_placement-congr pack s k b split other shares in
    (shares, same, ap placement_bytes same)

-- Demand 3: "The survivor figure F of every accepted placement holds whichever k of its n nodes fail: at least F of its b
-- records have fewer than s replicas among the failed." Which nodes fail is a test that just k of the n nodes pass; record j is
-- the r bytes at the first row's place plus j × r. It holds for nodes in kind 6 too; that kind's promise for feeders is `n-survivors`.
pub demand-3-survivors : (bytes : List ℕ) {kind n r s k b figure first : ℕ} {layers : List ℕ}
    → placement_outcome (placement_checked (read_placement bytes)) ≡ result (kind ∷ n ∷ r ∷ s ∷ k ∷ b ∷ figure ∷ first ∷ layers)
    → (failed : ℕ → Bool) → Failure n k failed
    → figure ≤ usable s (records_in bytes first r b) failed
demand-3-survivors bytes e failed f =
    let y = says bytes e in
    let holds = survivors y.file.content y.good failed (rw (y.n-is, y.k-is) f) in
    rw (y.figure-is, y.s-is, y.records) at holds

-- The same for failed nodes as a list: k different nodes below n.
pub demand-3-whichever : (bytes : List ℕ) {kind n r s k b figure first : ℕ} {layers : List ℕ}
    → placement_outcome (placement_checked (read_placement bytes)) ≡ result (kind ∷ n ∷ r ∷ s ∷ k ∷ b ∷ figure ∷ first ∷ layers)
    → (failed : List ℕ) → FailedNodes n k failed
    → figure ≤ usable s (records_in bytes first r b) (λ v. member v failed)
demand-3-whichever bytes {n = n} {k = k} e failed f =
    demand-3-survivors bytes e (λ v. member v failed) (failure-of-nodes n k failed f)
