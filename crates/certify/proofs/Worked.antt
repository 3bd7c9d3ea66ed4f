-- Cases of certifying worked by hand, by computation. Assumes nothing.
use mathlib.Core.Path.{◌≡◌, refl}
use mathlib.Core.List.{[], ◌∷◌, flatten}
use Rattle.lists.specs.Lists.{count, every, any, first_where, total, largest}
use Rattle.refusal.specs.Checked.{accepted, refused, map_accepted}
use Rattle.refusal.specs.declared.Refusal.TheVariants.{Ended, WrongKind, OutsideLimits, Trailing, BadRow, OutOfService, ShortOutput}
use Rattle.packing.specs.Floors.{floors_down}
use Rattle.number.specs.Numbers.{groups, number_bytes, read_groups, read_number, read_within}
use Rattle.packing.specs.Rows.{ascending, rows_at, member, holds, together, subsets, first_bad}
use Rattle.layers.specs.Layers.{list_numbers, head_numbers, names, first_naming, read_nodes, read_list, read_dark, check_length, check_end, check_ascending, check_service}
use Rattle.placement.specs.Figure.{lost_by, loss}
use Rattle.placement.specs.Placement.{placement_bytes}
use Rattle.planner.specs.Planning.{check_output}
use Rattle.certify.specs.Bare.{read_seven, read_start, read_order, check_bare_rows, read_bare, check_bare}
use Rattle.certify.specs.Certify.{most_together, figure_in, last_highest, placed_in, certified, certify_bare, certify}

-- 0 and 3 stand together in both rows, though they are neighbours in neither
pub most-by-hand : (most_together 0 ((0 ∷ 1 ∷ 3 ∷ []) ∷ (0 ∷ 2 ∷ 3 ∷ []) ∷ []) ≡ 2)
    × (most_together 1 ((0 ∷ 1 ∷ 3 ∷ []) ∷ (0 ∷ 2 ∷ 3 ∷ []) ∷ []) ≡ 2)
    × (most_together 2 ((0 ∷ 1 ∷ 3 ∷ []) ∷ (0 ∷ 2 ∷ 3 ∷ []) ∷ []) ≡ 1)
unfolding count every flatten largest member holds together subsets most_together
most-by-hand = (refl, refl, refl)

-- one row on nodes 0 and 1 of three: both layers lose it, and layer 1 is taken. An output one byte short is 11. Three rows on 0 and 1, 0 and
-- 2, 1 and 2: layer 0, with lambda 2, loses two of them, and layer 1, with lambda 1, loses one, which is taken.
pub certified-by-hand : (map_accepted placement_bytes (certify (7 ∷ 3 ∷ 2 ∷ 0 ∷ 2 ∷ 2 ∷ 1 ∷ 0 ∷ 1 ∷ []) 450)
    ≡ accepted (5 ∷ 3 ∷ 2 ∷ 0 ∷ 2 ∷ 2 ∷ 1 ∷ 0 ∷ 0 ∷ 0 ∷ 1 ∷ 1 ∷ 0 ∷ 1 ∷ []))
    × (certify (7 ∷ 3 ∷ 2 ∷ 0 ∷ 2 ∷ 2 ∷ 1 ∷ 0 ∷ 1 ∷ []) 449 ≡ refused (ShortOutput 450))
    × (map_accepted placement_bytes (certify (7 ∷ 4 ∷ 2 ∷ 1 ∷ 3 ∷ 2 ∷ 2 ∷ 3 ∷ 0 ∷ 1 ∷ 0 ∷ 2 ∷ 1 ∷ 2 ∷ []) 454)
    ≡ accepted (5 ∷ 4 ∷ 2 ∷ 1 ∷ 3 ∷ 2 ∷ 2 ∷ 3 ∷ 2 ∷ 0 ∷ 0 ∷ 1 ∷ 3 ∷ 0 ∷ 1 ∷ 0 ∷ 2 ∷ 1 ∷ 2 ∷ []))
unfolding count every any first_where flatten total largest floors_down groups number_bytes read_groups read_number read_within ascending rows_at member holds together subsets first_bad list_numbers head_numbers names first_naming read_nodes read_list read_dark check_length check_end check_ascending check_service lost_by loss placement_bytes check_output read_seven read_start read_order check_bare_rows read_bare check_bare most_together figure_in last_highest placed_in certified certify_bare certify
certified-by-hand = (refl, refl, refl)

-- "orders of checks, refusals and places as for placements": another kind, s above r, k at n, b 0; the rows' end missing and passed; a row out
-- of order before one that names a node out of service; each before 11
pub refused-by-hand : (certify (5 ∷ 3 ∷ 2 ∷ 0 ∷ 2 ∷ 2 ∷ 1 ∷ 0 ∷ 1 ∷ []) 0 ≡ refused WrongKind)
    × (certify (7 ∷ 3 ∷ 2 ∷ 0 ∷ 3 ∷ 2 ∷ 1 ∷ 0 ∷ 1 ∷ []) 0 ≡ refused (OutsideLimits 4))
    × (certify (7 ∷ 3 ∷ 2 ∷ 0 ∷ 2 ∷ 3 ∷ 1 ∷ 0 ∷ 1 ∷ []) 0 ≡ refused (OutsideLimits 5))
    × (certify (7 ∷ 3 ∷ 2 ∷ 0 ∷ 2 ∷ 2 ∷ 0 ∷ []) 0 ≡ refused (OutsideLimits 6))
    × (certify (7 ∷ 3 ∷ 2 ∷ 0 ∷ 2 ∷ 2 ∷ 1 ∷ 0 ∷ []) 0 ≡ refused (Ended 8))
    × (certify (7 ∷ 3 ∷ 2 ∷ 0 ∷ 2 ∷ 2 ∷ 1 ∷ 1 ∷ 0 ∷ 0 ∷ []) 0 ≡ refused (Trailing 9))
    × (certify (7 ∷ 3 ∷ 2 ∷ 1 ∷ 1 ∷ 2 ∷ 2 ∷ 2 ∷ 0 ∷ 1 ∷ 1 ∷ 0 ∷ []) 0 ≡ refused (BadRow 10))
    × (certify (7 ∷ 3 ∷ 2 ∷ 1 ∷ 1 ∷ 2 ∷ 2 ∷ 2 ∷ 0 ∷ 2 ∷ 0 ∷ 1 ∷ []) 0 ≡ refused (OutOfService 10))
unfolding count every any first_where flatten read_groups read_number read_within ascending rows_at member first_bad names first_naming read_nodes read_list read_dark check_length check_end check_ascending check_service check_output read_seven read_start read_order check_bare_rows read_bare check_bare certify_bare certify
refused-by-hand = (refl, refl, refl, refl, refl, refl, refl, refl)
