-- Demand 3 over the definitions: what planning gives for an accepted pack and an order within limits. Assumes nothing.
use Prim.Native.Nat.{ℕ, ◌*◌, ◌≤◌, ◌<◌, suc-le-suc}
use native.Mathlib.Omega.{arith}
use native.Mathlib.Nat.{mul-le-mul}
use mathlib.Core.Path.{◌≡◌, refl, sym, ap, subst}
use mathlib.Core.Bool.{Bool}
use mathlib.Core.List.{List}
use lib.ListN.{length}
use lib.Dec.{T}
use Rattle.lists.specs.Lists.{All}
use Rattle.lists.proofs.Alls.{all-imp, all-get_d-default}
use Rattle.refusal.specs.Checked.{accepted}
use Rattle.refusal.proofs.Checked.{accepted-injective, bind-elim, bind_congr, map_accepted-accepted}
use Rattle.packing.specs.Failures.{Failure, usable}
use Rattle.layers.specs.Layers.{Layer, blocks_at, all_rows, heads_of}
use Rattle.layers.proofs.Each.{head_of-blocks_at}
use Rattle.pack.specs.Pack.{Pack, GoodPack, read_pack, check_pack}
use Rattle.pack.proofs.Accepted.{read-of-pack}
use Rattle.placement.specs.Placement.{Placement, OrderLimits, GoodPlacement, check_placement, placement_bytes}
use Rattle.placement.specs.declared.Order.{Order}
use Rattle.placement.proofs.Written.{written-file, written-bytes, written-length}
use Rattle.placement.proofs.Accepted.{placement-accepted-iff}
use Rattle.placement.proofs.Survivors.{survivors}
use Rattle.placement.specs.declared.Rule.TheVariants.{NestedFloors}
use Rattle.split.specs.Splits.{Share, layer_at, has_block, named_split}
use Rattle.split.proofs.Named.{named_split-is-split}
use Rattle.split.proofs.Bounds.{named-lambda-le}
use Rattle.planner.proofs.Checks.{order-within, work-good, output-good, plan-fitting, planned-fits}
use Rattle.planner.proofs.Placed.{placed-good}
use Rattle.planner.specs.Planning.{split_placement, named_placement, check_order, check_blocks, plan_pack, plan, work_needed, output_needed, work_most, output_most}

-- an accepted pack is good
pub accepted-good : (bytes : List ℕ) (pack : Pack) → check_pack bytes ≡ accepted pack → GoodPack pack
unfolding check_pack
accepted-good bytes pack e =
    let (file, read, same) = map_accepted-accepted (λ file. file.content) (read_pack bytes) e in
    subst GoodPack same (read-of-pack bytes file.content file.first read).1

-- No order within limits needs more than `work_most` entries and `output_most` bytes.
module _ (pack : Pack) (good : GoodPack pack) (order : Order) (within : OrderLimits pack.n pack.r order) where
  pub entries-most : work_needed order.s order.b ≤ work_most
  entries-most =
      let s-most : order.s ≤ 5 = omega (arith, within.s-most, good.limits.base.r-most) in
      mul-le-mul s-most (suc-le-suc within.b-most)

  pub bytes_most : output_needed order.b pack.r ≤ output_most
  bytes_most = let rows = mul-le-mul within.b-most good.limits.base.r-most in omega arith

-- So with slices of these lengths, or longer ones, neither is refused: what is planned is the same.
pub plan-most : (bytes : List ℕ) (order : Order) (work output : ℕ) → work_most ≤ work → output_most ≤ output
    → plan bytes order work output ≡ plan bytes order work_most output_most
unfolding plan plan_pack
plan-most bytes order work output hw ho =
    bind_congr (check_pack bytes) _ _ _ refl λ pack e₁.
    bind_congr (check_order pack.n pack.r order) _ _ _ refl λ _ e₂.
    bind_congr (check_blocks (heads_of pack.layers) order.s) _ _ _ refl λ _ e₃.
    let good = accepted-good bytes pack e₁ in
    let within = order-within pack.n pack.r order e₂ in
    let entries = entries-most pack good order within in
    let bytes = bytes_most pack good order within in
    rw (
      work-good order work (omega arith),
      work-good order work_most entries,
      output-good order.b pack.r output (omega arith),
      output-good order.b pack.r output_most bytes,
    )

-- what is planned has the order's s, k and b
pub planned-order : (bytes : List ℕ) (order : Order) (work output : ℕ) (p : Placement) → plan bytes order work output ≡ accepted p
    → (p.s ≡ order.s) × (p.k ≡ order.k) × (p.b ≡ order.b)
unfolding plan named_placement split_placement
planned-order bytes order work output p e =
    bind-elim (check_pack bytes) _ e λ pack e₁ r₁.
    let is = sym (accepted-injective (planned-fits pack order work output r₁).1) in
    (ap (λ q. q.s) is, ap (λ q. q.k) is, ap (λ q. q.b) is)

-- mu of every layer is at most 4,096
mu-most : (layers : List Layer) (x : ℕ) → All (λ layer. (1 ≤ layer.bound) × (layer.bound ≤ 4_096)) layers → (blocks_at layers x).bound ≤ 4_096
mu-most layers x h =
    all-get_d-default (λ layer. layer.bound ≤ 4_096) layers x _ (omega arith)
    (all-imp _ (λ layer. layer.bound ≤ 4_096) (λ layer g. g.1) layers h)

module _ (bytes : List ℕ) (pack : Pack) (is-pack : check_pack bytes ≡ accepted pack) (order : Order)
    (within : OrderLimits pack.n pack.r order) (block : T (has_block (heads_of pack.layers) order.s)) where
  -- the named split, and its placement
  abbrev split : ℕ → Share
  split = named_split NestedFloors (heads_of pack.layers) order.s order.k order.b

  abbrev placement : Placement
  placement = named_placement pack order.s order.k order.b

  -- "the planner doesn't refuse", with "all buffers at least as long as stated"
  pub plan-never-refuses : (work output : ℕ) → work_needed order.s order.b ≤ work → output_needed order.b pack.r ≤ output
      → plan bytes order work output ≡ accepted placement
  unfolding plan
  plan-never-refuses work output hw ho =
      rw is-pack (plan-fitting pack order work output (record { within = within; block = block; work-fits = hw; output-fits = ho }))

  good : GoodPack pack
  good = accepted-good bytes pack is-pack

  named-lambdas : (x : ℕ) → x < order.s → (split x).copies * (layer_at (heads_of pack.layers) x).bound ≤ 16_777_216
  named-lambdas x lt =
      named-lambda-le NestedFloors (heads_of pack.layers) order.s order.k order.b within.b-most block x lt
      (rw (head_of-blocks_at pack.layers x) (mu-most pack.layers x good.limits.mu-limits))

  -- what the planner writes is a good placement
  pub plan-good : GoodPlacement placement
  unfolding named_placement
  plan-good =
      placed-good pack order.s order.k order.b split good within
      (named_split-is-split NestedFloors (heads_of pack.layers) order.s order.k order.b within.b-most block) named-lambdas

  -- "and the checker accepts it"
  pub plan-accepted : check_placement (placement_bytes placement) ≡ accepted placement
  unfolding named_placement split_placement
  plan-accepted =
      (placement-accepted-iff (placement_bytes placement) placement (written-bytes placement plan-good)).1
      (written-file placement plan-good refl, plan-good)

  -- it fits the output
  pub plan-fits : length (placement_bytes placement) ≤ output_needed order.b pack.r
  unfolding named_placement split_placement
  plan-fits = written-length placement plan-good

  -- "so this F too holds whichever k nodes fail"
  pub plan-survives : (failed : ℕ → Bool) → Failure pack.n order.k failed
      → placement.figure ≤ usable order.s (all_rows placement.layers) failed
  unfolding named_placement split_placement
  plan-survives failed f = survivors placement plan-good failed f
