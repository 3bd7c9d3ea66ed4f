-- The costs of copies up to a period, stored one after another, and a layer's steps. Assumes nothing.
use Prim.Native.Nat.{ℕ, zero, suc, ◌+◌, ◌*◌, ◌-◌, ◌≤◌, ◌<◌}
use native.Mathlib.Nat.{zero-add, mul-le-mul}
use native.Mathlib.Omega.{arith}
use mathlib.Core.Path.{◌≡◌, refl, sym, ap, ◌∙◌}
use mathlib.Core.List.{List}
use lib.ListN.{set, replicate}
use Rattle.lists.specs.Lists.{up_to}
use Rattle.packing.specs.Floors.{floors_down, falling}
use Rattle.packing.proofs.Growth.{falling-le-120}
use Rattle.layers.specs.declared.LayerHead.{LayerHead}
use Rattle.placement.specs.Figure.{lost_by}
use Rattle.split.specs.declared.Steps.{Steps}
use Rattle.split.specs.Splits.{layer_at, no_split}
use Rattle.split.specs.Table.{costs_of, copies_lose, steps_of}
use Rattle.lists.proofs.Stores.{stored_to, stored_next}
use Rattle.split.proofs.LayerSteps.{steps-no-blocks, steps-blocks}

-- one factor more of a falling product
pub falling-none : (s : ℕ) → s ≡ falling s 0
unfolding falling
falling-none s = refl

pub falling-next : (s i product : ℕ) → 1 ≤ i → product ≡ falling s (i - 1) → product * (s - i) ≡ falling s i
unfolding falling
falling-next s zero product h e = absurd (omega arith)
falling-next s (suc i) product h e =
    let q : suc i - 1 ≡ i = omega arith in
    let w = rw q at e in
    rw w refl

pub falling-small : (s i product : ℕ) → s ≤ 5 → 1 ≤ i → i < 5 → product ≡ falling s (i - 1) → product * (s - i) ≤ 120
falling-small s i product h g l e = rw (falling-next s i product g e) (falling-le-120 s i h l)

-- the lambda of a period's copies is small
pub lambda-le : (d bound : ℕ) → d ≤ 120 → bound ≤ 4_096 → d * bound ≤ 491_520
lambda-le d bound h g = mul-le-mul h g

-- one cost more
pub costs-next : (s k x bound d : ℕ) {costs : List ℕ} {cost : ℕ} → costs ≡ stored_to 0 (replicate 121 0) (copies_lose s k x bound) d
    → cost ≡ floors_down k s x (d * bound) → set costs d cost ≡ stored_to 0 (replicate 121 0) (copies_lose s k x bound) (d + 1)
unfolding lost_by
costs-next s k x bound d {costs} {cost} e q =
    ap (λ i. set costs i cost) (sym (zero-add d)) ∙ stored_next 0 (replicate 121 0) (copies_lose s k x bound) d cost e q

-- the steps of layer x without a block
no-costs : set (replicate 121 0) 1 no_split ≡ costs_of (λ d. d * no_split) 1
unfolding up_to
no-costs = refl

module _ (layers : List LayerHead) (s k x : ℕ) where
  pub no_blocks : (layer_at layers x).size ≡ 0
      → ◌≡◌ {A = Steps} (record { size = 4_096; each = no_split; period = 1; costs = set (replicate 121 0) 1 no_split }) (steps_of layers s k x)
  no_blocks e =
      ap {B = Steps} (λ c. record { size = 4_096; each = no_split; period = 1; costs = c }) no-costs ∙ sym (steps-no-blocks layers s k x e)

  -- and with blocks
  pub blocks : {period : ℕ} {costs : List ℕ} → 0 < (layer_at layers x).size → period ≡ falling s x
      → costs ≡ costs_of (copies_lose s k x (layer_at layers x).bound) period
      → ◌≡◌ {A = Steps} (record { size = (layer_at layers x).size; each = 1; period = period; costs = costs }) (steps_of layers s k x)
  blocks p e q = rw (steps-blocks layers s k x p, q, e) refl
