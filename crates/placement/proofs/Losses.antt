-- Layers lose at most their rows, and no less as lambda grows, by either rule; the nested floors lose no more than the one.
-- Assumes nothing.
use Prim.Native.Nat.{ℕ, suc, ◌+◌, ◌≤◌}
use native.Mathlib.Omega.{arith}
use mathlib.Core.List.{List, [], ◌∷◌}
use lib.ListN.{length}
use Rattle.lists.specs.Lists.{total}
use Rattle.binomial.specs.Choose.{choose}
use Rattle.packing.proofs.Floors.{floors_down-nested, nested-le-floor}
use Rattle.packing.proofs.Growth.{floor-mono, floors_down-mono}
use Rattle.layers.specs.Layers.{sizes}
use Rattle.layers.specs.declared.LayerHead.{LayerHead}
use Rattle.placement.specs.declared.Rule.{Rule}
use Rattle.placement.specs.declared.Rule.TheVariants.{OneFloor, NestedFloors}
use Rattle.placement.specs.Figure.{lost_by, loss, losses, figure_of}

pub lost_by-mono : (rule : Rule) (s k x a b : ℕ) → a ≤ b → lost_by rule s k x a ≤ lost_by rule s k x b
unfolding lost_by
lost_by-mono OneFloor s k x a b h = floor-mono (choose k (suc x)) (choose s (suc x)) a b h
lost_by-mono NestedFloors s k x a b h = floors_down-mono k s x a b h

pub loss-le-size : (rule : Rule) (s k x : ℕ) (head : LayerHead) → loss rule s k x head ≤ head.size
unfolding loss
loss-le-size rule s k x head = omega arith

pub losses-le-sizes : (rule : Rule) (s k x : ℕ) (heads : List LayerHead) → losses rule s k x heads ≤ sizes heads
unfolding losses total
losses-le-sizes rule s k x [] = omega arith
losses-le-sizes rule s k x (head ∷ heads) =
    omega (arith, loss-le-size rule s k x head, losses-le-sizes rule s k (suc x) heads)

-- "F (0..b)"
pub figure_of-le : (rule : Rule) (s k b : ℕ) (heads : List LayerHead) → figure_of rule s k b heads ≤ b
unfolding figure_of
figure_of-le rule s k b heads = omega arith

-- Johnson's bound "is sharper": the nested floors never lose more than the one floor
pub nested-le-one : (s k x lambda : ℕ) → suc x ≤ s → lost_by NestedFloors s k x lambda ≤ lost_by OneFloor s k x lambda
unfolding lost_by
nested-le-one s k x lambda h = rw (floors_down-nested k s x lambda) (nested-le-floor (suc x) lambda k s h)

losses-nested-le-one : (s k x : ℕ) (heads : List LayerHead) → x + length heads ≤ s
    → losses NestedFloors s k x heads ≤ losses OneFloor s k x heads
unfolding losses loss
losses-nested-le-one s k x [] h = omega arith
losses-nested-le-one s k x (head ∷ heads) h =
    let here = nested-le-one s k x head.bound (omega arith) in
    let later = losses-nested-le-one s k (suc x) heads (omega arith) in
    omega arith

-- so their figure is never below the one floor's
pub figure-one-le-nested : (s k b : ℕ) (heads : List LayerHead) → length heads ≤ s
    → figure_of OneFloor s k b heads ≤ figure_of NestedFloors s k b heads
unfolding figure_of
figure-one-le-nested s k b heads h = let less = losses-nested-le-one s k 0 heads (omega arith) in omega arith
