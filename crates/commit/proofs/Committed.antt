-- Committing counts that are taken: what writing asks, and the answer. Assumes nothing.
use Prim.Native.Nat.{ℕ, suc, ◌*◌, ◌≤◌, ◌<◌}
use Rattle.std.specs.Prelude.{Result}
use native.Mathlib.Omega.{arith}
use native.Mathlib.Nat.{le_trans, not-suc-le-zero, eq-zero-or-pos}
use mathlib.Core.Path.{◌≡◌, refl, sym, ◌∙◌, ap}
use mathlib.Core.Logic.{◌⊎◌, inl, inr}
use mathlib.Core.List.{List, [], ◌∷◌, map, map-map}
use lib.ListN.{length, get_or}
use lib.Dec.{T}
use Rattle.lists.specs.Lists.{total, up_to}
use Rattle.lists.proofs.Alls.{all-get_d-default, all-imp, all_map}
use Rattle.lists.proofs.Tests.{T_true}
use Rattle.lists.proofs.UpTo.{map-up_to-congr}
use Rattle.refusal.specs.declared.Refusal.{Refusal}
use Rattle.refusal.specs.Checked.{Checked, accepted, refused}
use Rattle.packing.proofs.Copies.{length-repeated}
use Rattle.layers.specs.Layers.{Layer, blocks_at, head_of, heads_of}
use Rattle.layers.specs.Answers.{five, no_head}
use Rattle.layers.specs.declared.Base.{Base}
use Rattle.layers.specs.declared.LayerHead.{LayerHead}
use Rattle.pack.specs.Pack.{Pack, GoodPack}
use Rattle.placement.specs.Placement.{Placement, OrderLimits, GoodPlacement, placement_bytes, check_placement}
use Rattle.placement.specs.declared.Order.{Order}
use Rattle.placement.proofs.Accepted.{placement-accepted-iff}
use Rattle.placement.proofs.Written.{written-file, written-bytes, written-length}
use Rattle.split.specs.Splits.{layer_at, counts_split, has_block}
use Rattle.split.proofs.Bounds.{copies_for-mul-bound-le}
use Rattle.split.proofs.Heads.{split-count-le}
use Rattle.planner.specs.Planning.{placed, split_placement, output_needed, output_after}
use Rattle.planner.specs.Answers.{plan_answer, counts_of}
use Rattle.planner.specs.Writing.{counts_placement, PackHeld, Writable}
use Rattle.planner.specs.declared.PlanResult.{PlanResult}
use Rattle.planner.specs.declared.PlannedFile.{PlannedFile}
use Rattle.planner.proofs.Blocks.{block-found}
use Rattle.planner.proofs.Placed.{placed-good}
use Rattle.commit.specs.Committing.{Taken, CommitDone}
use Rattle.commit.proofs.Counts.{taken-split, taken_none}
use Rattle.commit.proofs.Fives.{five-counts}

-- what writing the split's placement asks
pub writable : {base : Base} {layers : List LayerHead} {blocks : List ℕ} {order : Order} {counts : List ℕ}
    → PackHeld base layers blocks → OrderLimits base.n base.r order → Taken layers order.s order.b counts
    → Writable base layers blocks order counts
writable held within taken = record { held = held; within = within; is-split = taken-split taken }

-- the committed placement has the counts, layer by layer
sizes-are : (pack : Pack) (order : Order) (counts : List ℕ)
    → map (λ layer. length layer.rows) (counts_placement pack order counts).layers ≡ map (λ x. get_or counts x 0) (up_to order.s)
unfolding split_placement
sizes-are pack order counts =
    let layer : ℕ → Layer = λ x. placed (blocks_at pack.layers x) (counts_split (heads_of pack.layers) counts x) in
    map-map (λ layer. length layer.rows) layer (up_to order.s)
    ∙ map-up_to-congr _ _ order.s (λ x l. length-repeated (blocks_at pack.layers x).rows (get_or counts x 0))

-- an array of five counts is what the answer has beside it
pub counts-answered : (pack : Pack) (order : Order) (counts : List ℕ) (layers : List LayerHead) → length counts ≡ 5 → order.s ≤ 5
    → Taken layers order.s order.b counts → counts ≡ counts_of (counts_placement pack order counts)
counts-answered pack order counts layers long most taken =
    five-counts counts order.s long most (taken_none taken) ∙ ap (five 0) (sym (sizes-are pack order counts))

-- a refusal leaves the output as it was
pub refused-done : {committed : Checked Placement} {e : Refusal} (out : List ℕ) {given : PlanResult}
    → committed ≡ refused e → given ≡ plan_answer (refused e) → CommitDone committed out out given
refused-done out is e = rw is (record { answer = e; output-after = refl })

-- the answer and the output afterwards
pub committed-done : {p : Placement} {out out-left counts : List ℕ} {answer : Result PlannedFile Refusal} → counts ≡ counts_of p
    → (answer ≡ (plan_answer (accepted p)).answer) × (out-left ≡ output_after (accepted p) out)
    → CommitDone (accepted p) out out-left (record { answer = answer; counts = counts })
committed-done same (a, o) = record { answer = λ i. record { answer = a i; counts = same i }; output-after = o }

-- where the counts sum to a record, some layer has one
some-count : (l : List ℕ) → 0 < total l → (x : ℕ) × (0 < get_or l x 0)
unfolding total
some-count [] h = absurd (not-suc-le-zero h)
some-count (c ∷ l) h = go (eq-zero-or-pos c) (some-count l)
  where
    go : (c ≡ 0) ⊎ (0 < c) → (0 < total l → (x : ℕ) × (0 < get_or l x 0)) → (x : ℕ) × (0 < get_or (c ∷ l) x 0)
    go (inl e) ih = let rest = ih (omega arith) in (suc rest.0, rest.1)
    go (inr p) ih = (0, p)

-- On an accepted pack, with an order within limits and counts that are taken, the placement is one that document 01 accepts.
module _ (pack : Pack) (good : GoodPack pack) (order : Order) (within : OrderLimits pack.n pack.r order) (counts : List ℕ)
    (taken : Taken (heads_of pack.layers) order.s order.b counts) where
  abbrev heads : List LayerHead
  heads = heads_of pack.layers

  abbrev placement : Placement
  placement = counts_placement pack order counts

  mu-most : (x : ℕ) → (layer_at heads x).bound ≤ 4_096
  mu-most x =
      all-get_d-default (λ head. head.bound ≤ 4_096) heads x no_head (omega arith)
      (all_map _ head_of pack.layers (all-imp _ _ (λ layer h. h.1) pack.layers good.limits.mu-limits))

  lambda-most : (x : ℕ) → x < order.s → (counts_split heads counts x).copies * (layer_at heads x).bound ≤ 16_777_216
  lambda-most x h =
      let few = split-count-le heads order.s order.b (counts_split heads counts) (taken-split taken) x h in
      copies_for-mul-bound-le (get_or counts x 0) (layer_at heads x).size (layer_at heads x).bound (le_trans few within.b-most) (mu-most x)

  pub committed-good : GoodPlacement placement
  committed-good =
      placed-good pack order.s order.k order.b (counts_split heads counts) good within (taken-split taken) lambda-most

  -- "committing any other split gives a placement that the checker accepts"
  pub committed-accepted : check_placement (placement_bytes placement) ≡ accepted placement
  unfolding split_placement
  committed-accepted =
      (placement-accepted-iff (placement_bytes placement) placement (written-bytes placement committed-good)).1
      (written-file placement committed-good refl, committed-good)

  pub committed-bytes : length (placement_bytes placement) ≤ output_needed order.b pack.r
  unfolding split_placement
  committed-bytes = written-length placement committed-good

  -- some layer below s has a block: there are records
  pub taken-block : T (has_block heads order.s)
  taken-block =
      let sum = taken.sum in
      let some = some-count counts (omega (arith, within.b-least)) in
      let place = taken.placed some.0 some.1 in
      T_true (block-found heads some.0 order.s place.0 place.1)
