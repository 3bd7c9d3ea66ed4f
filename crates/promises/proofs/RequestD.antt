-- Document 02's request (d), Johnson's nested floors, as theorems in its words. All of demand 2 and demand 3 in `Demands`,
-- `Planned` and `Programs` is by the rule of the file's kind, and of the planner by the nested floors; it wrote kind 3 until
-- request (h). Assumes nothing.
use Prim.Native.Nat.{ℕ, suc, ◌≤◌}
use native.Mathlib.Omega.{arith}
use mathlib.Core.Path.{◌≡◌, refl, ◌∙◌}
use mathlib.Core.Logic.{◌⊎◌, inl, inr}
use mathlib.Core.List.{List, [], ◌∷◌}
use lib.ListN.{length, length-map}
use lib.Dec.{T}
use Rattle.refusal.specs.Refusals.{result, refusal}
use Rattle.refusal.specs.Checked.{Checked, accepted, refused}
use Rattle.refusal.specs.declared.Refusal.TheVariants.{WrongKind}
use Rattle.number.specs.Numbers.{read_number}
use Rattle.number.specs.declared.Reading.{Reading}
use Rattle.packing.specs.Rows.{member, records_in}
use Rattle.packing.specs.Failures.{FailedNodes, usable}
use Rattle.layers.specs.Layers.{Located, head_of, heads_of, is_kind, read_kind, read_base}
use Rattle.layers.specs.declared.FileKind.TheVariants.{Placement as PlacementKind}
use Rattle.layers.specs.declared.LayerHead.{LayerHead}
use Rattle.layers.proofs.KindMeaning.{placement-kinds, kind-refused-iff}
use Rattle.placement.specs.declared.Rule.TheVariants.{OneFloor, NestedFloors}
use Rattle.placement.specs.Figure.{loss, figure_of}
use Rattle.placement.specs.Placement.{Placement, GoodPlacement, read_placement}
use Rattle.placement.specs.Answers.{placement_checked, placement_outcome}
use Rattle.placement.specs.SevenCabinets.{seven_records}
use Rattle.placement.proofs.Accepted.{read-of-placement}
use Rattle.placement.proofs.Losses.{nested-le-one, figure-one-le-nested}
use Rattle.placement.proofs.Worked.{same_rows}
use Rattle.promises.proofs.Demands.{demand-3-whichever}

-- "the survivor guarantee has to hold for both": an accepted placement is of kind 2 or 3 or, by request (h), 5 or, by (n), 6 and,
-- whichever k of its n nodes fail, at least F of its b records stay usable
pub d-both-kinds-hold : (bytes : List ℕ) {kind n r s k b figure first : ℕ} {layers : List ℕ}
    → placement_outcome (placement_checked (read_placement bytes)) ≡ result (kind ∷ n ∷ r ∷ s ∷ k ∷ b ∷ figure ∷ first ∷ layers)
    → ((kind ≡ 2) ⊎ ((kind ≡ 3) ⊎ ((kind ≡ 5) ⊎ (kind ≡ 6))))
    × ((failed : List ℕ) → FailedNodes n k failed → figure ≤ usable s (records_in bytes first r b) (λ v. member v failed))
d-both-kinds-hold bytes {kind} {n} {r} {s} {k} {b} {figure} {first} {layers} e =
    (go (read_placement bytes) refl e, demand-3-whichever bytes e)
  where
    go : (c : Checked (Located Placement)) → read_placement bytes ≡ c
        → placement_outcome (placement_checked c) ≡ result (kind ∷ n ∷ r ∷ s ∷ k ∷ b ∷ figure ∷ first ∷ layers)
        → (kind ≡ 2) ⊎ ((kind ≡ 3) ⊎ ((kind ≡ 5) ⊎ (kind ≡ 6)))
    go (accepted file) q says =
        let p = file.content in
        let good = (read-of-placement bytes p file.first q).1 in
        let same : p.kind ≡ kind = cc in
        placement-kinds kind (rw same at good.limits.kind)
    go (refused why) q says = absurd (let z : ◌≡◌ {A = ℕ} 0 1 = cc in omega arith)

-- "Files of kind 2 are checked by the old formula."
pub d-kind-2 : (p : Placement) → GoodPlacement p → p.kind ≡ 2 → p.figure ≡ figure_of OneFloor p.s p.k p.b (heads_of p.layers)
d-kind-2 p good two = good.formula ∙ rw two refl

-- "A placement of kind 3 uses it"
pub d-kind-3 : (p : Placement) → GoodPlacement p → p.kind ≡ 3 → p.figure ≡ figure_of NestedFloors p.s p.k p.b (heads_of p.layers)
d-kind-3 p good three = good.formula ∙ rw three refl

-- "the Johnson bound, which is sharper": a layer below s never loses more by the nested floors
pub d-never-loses-more : (s k x : ℕ) (layer : LayerHead) → suc x ≤ s → loss NestedFloors s k x layer ≤ loss OneFloor s k x layer
unfolding loss
d-never-loses-more s k x layer h = let sharper = nested-le-one s k x layer.bound h in omega arith

-- so the figure of kind 3 is never below that of kind 2 on the same rows
pub d-figure-never-below : (p q : Placement) → GoodPlacement p → GoodPlacement q → p.kind ≡ 2 → q.kind ≡ 3 → p.s ≡ q.s
    → p.k ≡ q.k
    → p.b ≡ q.b
    → p.layers ≡ q.layers
    → p.figure ≤ q.figure
d-figure-never-below p q good also two three s-same k-same b-same rows_same =
    let few : length (heads_of q.layers) ≤ q.s = omega (arith, length-map q.layers head_of, also.limits.layer-each) in
    rw
    (d-kind-2 p good two, d-kind-3 q also three, s-same, k-same, b-same, rows_same)
    (figure-one-le-nested q.s q.k q.b (heads_of q.layers) few)

-- and it is above where document 01's pack has s 3, k 4, b 7: "figure 6 where it had 5"
pub d-example-above : (placement_outcome (placement_checked (read_placement (seven_records 2 5)))
    ≡ result (2 ∷ 7 ∷ 3 ∷ 3 ∷ 4 ∷ 7 ∷ 5 ∷ 13 ∷ 0 ∷ 0 ∷ 1 ∷ 7 ∷ 0 ∷ 0 ∷ 0 ∷ 0 ∷ 0 ∷ 0 ∷ 0 ∷ []))
    × (placement_outcome (placement_checked (read_placement (seven_records 3 6)))
    ≡ result (3 ∷ 7 ∷ 3 ∷ 3 ∷ 4 ∷ 7 ∷ 6 ∷ 13 ∷ 0 ∷ 0 ∷ 1 ∷ 7 ∷ 0 ∷ 0 ∷ 0 ∷ 0 ∷ 0 ∷ 0 ∷ 0 ∷ []))
    × (placement_outcome (placement_checked (read_placement (seven_records 2 6))) ≡ refusal 8 6)
    × (placement_outcome (placement_checked (read_placement (seven_records 3 5))) ≡ refusal 8 6)
d-example-above = same_rows

-- any other first number is refusal 3, "the first number is not the file's kind"
pub d-other-kind-refused : (bytes : List ℕ) (first : Reading) → read_number bytes 0 ≡ accepted first → (first.value ≡ 2 → ⊥)
    → (first.value ≡ 3 → ⊥)
    → (first.value ≡ 5 → ⊥)
    → (first.value ≡ 6 → ⊥)
    → placement_outcome (placement_checked (read_placement bytes)) ≡ refusal 3 0
unfolding read_placement read_base
d-other-kind-refused bytes first read not-two not_three not_five not-six =
    let refuses : read_kind PlacementKind bytes ≡ refused WrongKind =
    (kind-refused-iff PlacementKind bytes WrongKind).1 (inr (refl, (first, read, neither))) in
    rw refuses
  where
    neither : T (is_kind PlacementKind first.value) → ⊥
    neither t = go (placement-kinds first.value t)
      where
        go : (first.value ≡ 2) ⊎ ((first.value ≡ 3) ⊎ ((first.value ≡ 5) ⊎ (first.value ≡ 6))) → ⊥
        go (inl two) = not-two two
        go (inr (inl three)) = not_three three
        go (inr (inr (inl five))) = not_five five
        go (inr (inr (inr six))) = not-six six
