-- The curve of document 01's nine records on seven cabinets, worked by hand: with k' failures layer 0 loses the smaller of 2 and
-- floor(k' / 2), layer 1 the smaller of 7 and C(k',2), by either rule. Assumes nothing.
use mathlib.Core.Path.{◌≡◌, refl}
use mathlib.Core.List.{[], ◌∷◌}
use Rattle.lists.specs.Lists.{up_to}
use Rattle.refusal.specs.declared.Refusal.TheVariants.{ShortOutput}
use Rattle.refusal.specs.Checked.{accepted, refused}
use Rattle.binomial.specs.Choose.{choose}
use Rattle.packing.specs.Floors.{floors_down}
use Rattle.placement.specs.Figure.{lost_by, loss, losses, figure_of}
use Rattle.placement.specs.Units.{figure_at}
use Rattle.placement.specs.SevenCabinets.{placement_file, seven_placement}
use Rattle.placement.proofs.Worked.{placements, placements-of-kind-3}
use Rattle.curve.specs.Curve.{curve_of, check_curve}

pub seven-curve : (check_curve (placement_file 2 5) 5 ≡ accepted (7 ∷ 5 ∷ 1 ∷ 0 ∷ 0 ∷ []))
    × (check_curve (placement_file 3 5) 5 ≡ accepted (7 ∷ 5 ∷ 1 ∷ 0 ∷ 0 ∷ []))
    × (check_curve (placement_file 2 5) 4 ≡ refused (ShortOutput 5))
unfolding up_to choose floors_down lost_by loss losses figure_of figure_at curve_of check_curve seven_placement
seven-curve = (rw placements.1 refl, rw placements-of-kind-3.0 refl, rw placements.1 refl)
