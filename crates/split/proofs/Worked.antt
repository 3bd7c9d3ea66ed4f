-- Document 01's orders with the pack P, split by computation, and request (d)'s: P has mu 1 in every layer and 2, 7 and 0
-- blocks. Assumes nothing.
use Prim.Native.Nat.{ℕ}
use mathlib.Core.Path.{◌≡◌, refl}
use mathlib.Core.List.{List, [], ◌∷◌}
use Rattle.lists.specs.Lists.{total, up_to}
use Rattle.binomial.specs.Choose.{choose}
use Rattle.packing.specs.Floors.{floors_down}
use Rattle.layers.specs.declared.LayerHead.{LayerHead}
use Rattle.placement.specs.declared.Rule.{Rule}
use Rattle.placement.specs.declared.Rule.TheVariants.{OneFloor, NestedFloors}
use Rattle.placement.specs.Figure.{lost_by, loss, losses, figure_of}
use Rattle.split.specs.Splits.{split_figure, loss_of, least, last_least, least_loss, best_count, named_counts, named_split}

-- mu and m of P's layers
abbrev pub seven_heads : List LayerHead
seven_heads = record { bound = 1; size = 2 } ∷ record { bound = 1; size = 7 } ∷ record { bound = 1; size = 0 } ∷ []

-- the figure of P's named split
abbrev pub named_figure : Rule → (s k b : ℕ) → ℕ
named_figure rule s k b = split_figure rule seven_heads s k b (named_split rule seven_heads s k b)

pub splits : (named_counts OneFloor seven_heads 2 3 2 9 ≡ 2 ∷ 7 ∷ [])
    × (named_counts OneFloor seven_heads 2 2 2 9 ≡ 0 ∷ 9 ∷ [])
    × (named_figure OneFloor 2 2 7 ≡ 6)
    × (named_figure OneFloor 2 3 7 ≡ 4)
    × (named_figure OneFloor 2 3 9 ≡ 5)
    × (named_figure OneFloor 2 2 9 ≡ 7)
    × (named_figure OneFloor 3 4 7 ≡ 5)
    × (named_figure OneFloor 2 2 1 ≡ 0)
unfolding total up_to choose lost_by loss losses figure_of loss_of least last_least least_loss best_count named_counts named_split
splits = (refl, refl, refl, refl, refl, refl, refl, refl)

-- "Document 01's pack with s 3, k 4, b 7 then has figure 6 where it had 5"; the other orders keep theirs
pub splits-nested : (named_counts NestedFloors seven_heads 2 3 2 9 ≡ 2 ∷ 7 ∷ [])
    × (named_counts NestedFloors seven_heads 2 2 2 9 ≡ 0 ∷ 9 ∷ [])
    × (named_figure NestedFloors 2 2 7 ≡ 6)
    × (named_figure NestedFloors 2 3 7 ≡ 4)
    × (named_figure NestedFloors 2 3 9 ≡ 5)
    × (named_figure NestedFloors 2 2 9 ≡ 7)
    × (named_figure NestedFloors 3 4 7 ≡ 6)
    × (named_figure NestedFloors 2 2 1 ≡ 0)
unfolding total up_to floors_down lost_by loss losses figure_of loss_of least last_least least_loss best_count named_counts named_split
splits-nested = (refl, refl, refl, refl, refl, refl, refl, refl)
