-- What the inner functions of the curve ask and give. Assumes nothing.
use Rattle.std.specs.Prelude.{ℕ, ◌+◌, ◌-◌, ◌≤◌, List, map, take, length, leb}
use Rattle.lists.specs.Lists.{All, up_to}
use Rattle.refusal.specs.declared.Refusal.TheVariants.{ShortOutput}
use Rattle.refusal.specs.Checked.{Checked, accepted, ◌>>=◌, require}
use Rattle.layers.specs.Layers.{sizes}
use Rattle.layers.specs.declared.LayerHead.{LayerHead}
use Rattle.placement.specs.declared.Rule.{Rule}
use Rattle.placement.specs.Figure.{rule_of, figure_of}
use Rattle.placement.specs.declared.PlacementHead.{PlacementHead}

-- lambda and c of the layers below s within their limits, in an array
pub record LayersAsked (s b : ℕ) (layers : List LayerHead) : Type 0 where
  pub s-most : s ≤ 5
  pub held : s ≤ length layers
  pub b-most : b ≤ 4_096
  pub fit : sizes (take s layers) ≤ b
  pub bounds : All (λ head. head.bound ≤ 16_777_216) (take s layers)

-- the numbers of an accepted placement, in which so many units can fail
pub record CurveAsked (head : PlacementHead) (units : ℕ) (layers : List LayerHead) : Type 0 where
  pub asked : LayersAsked head.s head.b layers
  pub s-units : head.s ≤ units
  pub units-most : units ≤ 255

-- the figures for s, s + 1, .. failures
abbrev pub figures_from : Rule → (s b : ℕ) (layers : List LayerHead) (entries : ℕ) → List ℕ
figures_from rule s b layers entries = map (λ i. figure_of rule s (s + i) b (take s layers)) (up_to entries)

-- what is left to do once the placement is accepted
unfoldable pub curve_from : PlacementHead → (units : ℕ) → List LayerHead → (output : ℕ) → Checked (List ℕ)
curve_from head units layers output = do
  _ ← require (leb (units - head.s) output) (ShortOutput (units - head.s))
  accepted (figures_from (rule_of head.kind) head.s head.b layers (units - head.s))
