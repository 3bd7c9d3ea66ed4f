-- Document 01, "Placement": the loss of a layer and the survivor figure, by document 01's rule or by that of document 02's
-- request (d). Assumes nothing.
use Rattle.std.specs.Prelude.{ℕ, suc, ◌+◌, ◌*◌, ◌-◌, ◌/◌, min, cond, List, [], ◌∷◌, eqb}
use Rattle.binomial.specs.Choose.{choose}
use Rattle.packing.specs.Floors.{floors_down}
use Rattle.layers.specs.declared.LayerHead.{LayerHead}
use Rattle.placement.specs.declared.Rule.{Rule}
use Rattle.placement.specs.declared.Rule.TheVariants.{OneFloor, NestedFloors}

-- request (d): "A placement of kind 3 uses it", the Johnson bound; "Files of kind 2 are checked by the old formula."; (h) kind 5,
-- "whose figure is that of kind 3"
abbrev pub rule_of : (kind : ℕ) → Rule
rule_of kind = cond (eqb kind 2) OneFloor NestedFloors

-- the most records that k failures can lose in layer x at this lambda: "floor(lambda × C(k,x+1) / C(s,x+1))", one floor a
-- layer, or "floor(lambda × (k-x) / (s-x)), then for i = x-1 down to 0 ..": a floor at each step
unfoldable pub lost_by : Rule → (s k x lambda : ℕ) → ℕ
lost_by OneFloor s k x lambda = lambda * choose k (suc x) / choose s (suc x)
lost_by NestedFloors s k x lambda = floors_down k s x lambda

-- "Loss of a layer: the smaller of c and" that, and the smaller of the two "in every layer"
unfoldable pub loss : Rule → (s k x : ℕ) → LayerHead → ℕ
loss rule s k x layer = min layer.size (lost_by rule s k x layer.bound)

-- "the losses of all layers", for the layers from x on
unfoldable pub losses : Rule → (s k x : ℕ) → List LayerHead → ℕ
losses rule s k x [] = 0
losses rule s k x (layer ∷ layers) = loss rule s k x layer + losses rule s k (suc x) layers

-- "F must equal b less the losses of all layers"
unfoldable pub figure_of : Rule → (s k b : ℕ) → List LayerHead → ℕ
figure_of rule s k b layers = b - losses rule s k 0 layers
