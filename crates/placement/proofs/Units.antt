-- The figure for any number of failures: it holds whichever units fail, never rises with more failures, and is F at the
-- planned k. Assumes nothing.
use Prim.Native.Nat.{ℕ, suc, ◌+◌, ◌*◌, ◌≤◌}
use native.Mathlib.Omega.{arith}
use native.Mathlib.Nat.{mul-le-mul_left}
use mathlib.Core.Path.{◌≡◌, refl, sym}
use mathlib.Core.Bool.{Bool}
use mathlib.Core.List.{List, [], ◌∷◌}
use mathlib.Core.Option.{Option, none, some}
use lib.ListN.{length, length-map}
use Rattle.lists.specs.Lists.{All}
use Rattle.lists.proofs.Arith.{div-le-div-right}
use Rattle.binomial.specs.Choose.{choose}
use Rattle.binomial.proofs.Laws.{choose-mono}
use Rattle.packing.specs.Rows.{Row}
use Rattle.packing.specs.Failures.{Failure, usable}
use Rattle.packing.proofs.Growth.{floors_down-grows}
use Rattle.layers.specs.Layers.{Layer, heads_of}
use Rattle.layers.specs.declared.LayerHead.{LayerHead}
use Rattle.placement.specs.declared.Rule.{Rule}
use Rattle.placement.specs.declared.Rule.TheVariants.{OneFloor, NestedFloors}
use Rattle.placement.specs.Figure.{rule_of, lost_by, loss, losses, figure_of}
use Rattle.placement.specs.Placement.{Placement, GoodPlacement}
use Rattle.placement.specs.Units.{units, unit_rows, figure_at}
use Rattle.placement.specs.Feeders.{Feeders, unit_layers}
use Rattle.placement.proofs.LayersLost.{sizes-le-losses}
use Rattle.placement.proofs.FeederRows.{unit-heads, unit-rows}

-- more failures lose no less, by either rule
lost_by-grows : (rule : Rule) (s k k' x lambda : ℕ) → k ≤ k' → lost_by rule s k x lambda ≤ lost_by rule s k' x lambda
unfolding lost_by
lost_by-grows OneFloor s k k' x lambda h =
    div-le-div-right (lambda * choose k (suc x)) (lambda * choose k' (suc x)) (choose s (suc x))
    (mul-le-mul_left lambda (choose-mono k k' (suc x) h))
lost_by-grows NestedFloors s k k' x lambda h = floors_down-grows k k' s x lambda h

losses-grow : (rule : Rule) (s k k' x : ℕ) (heads : List LayerHead) → k ≤ k' → losses rule s k x heads ≤ losses rule s k' x heads
unfolding losses loss
losses-grow rule s k k' x [] h = omega arith
losses-grow rule s k k' x (head ∷ heads) h =
    omega (arith, lost_by-grows rule s k k' x head.bound h, losses-grow rule s k k' (suc x) heads h)

-- Document 02, (c): "no figure on the curve is higher than one for fewer failures"
pub figure_at-falls : (p : Placement) (k k' : ℕ) → k ≤ k' → figure_at p k' ≤ figure_at p k
unfolding figure_at figure_of
figure_at-falls p k k' h = omega (arith, losses-grow (rule_of p.kind) p.s k k' 0 (heads_of p.layers) h)

-- a layer for each layer
unit-length : (feeders : Option Feeders) (layers : List Layer) → length (unit_layers feeders layers) ≡ length layers
unit-length none layers = refl
unit-length (some feeders) layers = length-map layers _

-- the rows of what can fail are rows
pub unit-rows-are : (p : Placement) → GoodPlacement p → All (Row (units p) p.r) (unit_rows p)
unit-rows-are p good = unit-rows p.kind p.n p.r p.k p.feeders p.layers good.limits.feeders good.rows good.apart

module _ (p : Placement) (good : GoodPlacement p) where
  -- "Each must hold whichever k' nodes fail"
  pub figure_at-holds : (k : ℕ) (failed : ℕ → Bool) → Failure (units p) k failed
      → figure_at p k ≤ usable p.s (unit_rows p) failed
  unfolding figure_at figure_of
  figure_at-holds k failed e =
      let each = good.limits.layer-each in
      let few : 0 + length (unit_layers p.feeders p.layers) ≤ p.s = rw (unit-length p.feeders p.layers) (omega arith) in
      let layers = rw (unit-heads p.feeders p.layers)
      at (sizes-le-losses (rule_of p.kind) (units p) p.r p.s k 0 (unit_layers p.feeders p.layers) failed few
      (unit-rows-are p good) good.packings e) in
      omega (arith, good.limits.records-all)

  -- at the planned k it is F
  pub figure_at-planned : figure_at p p.k ≡ p.figure
  unfolding figure_at
  figure_at-planned = sym good.formula

  -- F holds for every failure of at most k units too
  pub survivors-at-most : (j : ℕ) (failed : ℕ → Bool) → j ≤ p.k → Failure (units p) j failed
      → p.figure ≤ usable p.s (unit_rows p) failed
  survivors-at-most j failed few e =
      let falls = figure_at-falls p j p.k few in
      omega (arith, figure_at-planned, figure_at-holds j failed e)
