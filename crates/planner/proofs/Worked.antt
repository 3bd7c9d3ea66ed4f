-- Document 01's orders with the pack P, and the order of refusals, by computation. Assumes nothing.
use Prim.Native.Nat.{ℕ}
use mathlib.Core.Path.{◌≡◌, refl}
use mathlib.Core.List.{List, [], ◌∷◌, flatten}
use Rattle.lists.specs.Lists.{count, every, any, first_where, total, up_to}
use Rattle.refusal.specs.Refusals.{result}
use Rattle.refusal.specs.Checked.{Checked, accepted, refused, map_accepted}
use Rattle.refusal.specs.declared.Refusal.TheVariants.{BadOrder, NoBlock, ShortWork, ShortOutput}
use Rattle.packing.specs.Floors.{floors_down}
use Rattle.number.specs.Numbers.{groups, number_bytes, read_groups, read_number, read_within}
use Rattle.packing.specs.Rows.{ascending, rows_at, member, holds, together, subsets, crowded, first_crowded, first_bad, repeated}
use Rattle.layers.specs.Layers.{list_numbers, head_numbers, names, first_naming, read_kind, read_nodes, read_list, read_dark, read_base, read_layers, layers_at, first_crowded_of, check_length, check_end, check_ascending, check_service, check_packings, check_rows}
use Rattle.pack.specs.Pack.{read_pack, check_pack}
use Rattle.packing.specs.SevenCabinets.{row245}
use Rattle.pack.specs.SevenCabinets.{pack_bytes}
use Rattle.placement.specs.Figure.{lost_by, loss, losses, figure_of}
use Rattle.placement.specs.Placement.{Placement, placement_bytes}
use Rattle.placement.specs.SevenCabinets.{listed_file, seven_placement}
use Rattle.split.specs.Splits.{loss_of, least, last_least, least_loss, best_count, named_counts, named_split, has_block}
use Rattle.planner.specs.Planning.{split_placement, named_placement, check_order, check_blocks, check_work, check_output, plan_pack, plan}
use Rattle.planner.specs.Answers.{plan_answer, plan_outcome}
use Rattle.planner.specs.SevenCabinets.{plan_p}

-- the placement that an order of a pack gives, with slices of these lengths
abbrev plan_of : (pack : List ℕ) (s k b work output : ℕ) → Checked Placement
plan_of pack s k b work output = plan pack (record { s = s; k = k; b = b }) work output

-- "With P: s 2, k 2, b 7: F 6. s 2, k 3, b 7: F 4. s 2, k 3, b 9: F 5, counts 2 and 7. s 2, k 2, b 9: F 7, counts 0 and
-- 9. s 3, k 4, b 7: F 5. s 2, k 2, b 1: F 0": the length, F and the counts, where request (d) has "figure 6 where it had 5". "Order
-- s = 2, k = 3, b = 9 gives the whole file": by request (h) 39 bytes, "beginning 5 7 3 0 2".
pub orders : (plan_outcome (plan_answer (plan_p 2 2 7)) ≡ result (33 ∷ 6 ∷ 0 ∷ 7 ∷ 0 ∷ 0 ∷ 0 ∷ []))
    × (plan_outcome (plan_answer (plan_p 2 3 7)) ≡ result (33 ∷ 4 ∷ 0 ∷ 7 ∷ 0 ∷ 0 ∷ 0 ∷ []))
    × (plan_outcome (plan_answer (plan_p 2 3 9)) ≡ result (39 ∷ 5 ∷ 2 ∷ 7 ∷ 0 ∷ 0 ∷ 0 ∷ []))
    × (plan_outcome (plan_answer (plan_p 2 2 9)) ≡ result (39 ∷ 7 ∷ 0 ∷ 9 ∷ 0 ∷ 0 ∷ 0 ∷ []))
    × (plan_outcome (plan_answer (plan_p 3 4 7)) ≡ result (35 ∷ 6 ∷ 0 ∷ 7 ∷ 0 ∷ 0 ∷ 0 ∷ []))
    × (plan_outcome (plan_answer (plan_p 2 2 1)) ≡ result (15 ∷ 0 ∷ 0 ∷ 1 ∷ 0 ∷ 0 ∷ 0 ∷ []))
    × (plan_p 2 3 9 ≡ accepted (seven_placement 5))
    × (placement_bytes (seven_placement 5) ≡ listed_file (0 ∷ []) 5)
unfolding count every any first_where total up_to flatten floors_down groups number_bytes read_groups read_number read_within ascending rows_at member holds together subsets crowded first_crowded first_bad list_numbers head_numbers names first_naming read_kind read_nodes read_list read_dark read_base read_layers layers_at first_crowded_of check_length check_end check_ascending check_service check_packings check_rows read_pack check_pack pack_bytes lost_by loss losses figure_of placement_bytes listed_file seven_placement loss_of least last_least least_loss best_count named_counts named_split repeated split_placement named_placement has_block check_order check_blocks check_work check_output plan_pack plan
orders = (refl, refl, refl, refl, refl, refl, refl, refl)

-- Chosen by the nested floors: 3 records in layer 0, with lambda 2, and 7 in layer 1 lose 2 and 1, where all 10 in layer 1 lose 4.
-- By the one floor both splits lose 4, and the second, with the largest c in layer 1, would be taken.
pub chosen-by-nested-floors : plan_outcome (plan_answer (plan_p 3 4 10)) ≡ result (44 ∷ 7 ∷ 3 ∷ 7 ∷ 0 ∷ 0 ∷ 0 ∷ [])
unfolding count every any first_where total up_to flatten floors_down groups number_bytes read_groups read_number read_within ascending rows_at member holds together subsets crowded first_crowded first_bad list_numbers head_numbers names first_naming read_kind read_nodes read_list read_dark read_base read_layers layers_at first_crowded_of check_length check_end check_ascending check_service check_packings check_rows read_pack check_pack pack_bytes lost_by loss losses figure_of placement_bytes listed_file seven_placement loss_of least last_least least_loss best_count named_counts named_split repeated split_placement named_placement has_block check_order check_blocks check_work check_output plan_pack plan
chosen-by-nested-floors = refl

-- a pack of one block, 0 1, in layer 1
abbrev upper_block : List ℕ
upper_block = 1 ∷ 3 ∷ 2 ∷ 1 ∷ 0 ∷ 1 ∷ 1 ∷ 0 ∷ 1 ∷ []

-- "Planning checks the pack, then 12, 9, 10, 11": s, k and b outside limits, "4,097 gives 12 with place 2", no block below
-- s, slices too short, and of two reasons to refuse the earlier one.
pub plans : (plan_p 4 3 9 ≡ refused (BadOrder 0))
    × (plan_p 2 7 9 ≡ refused (BadOrder 1))
    × (plan_p 2 1 9 ≡ refused (BadOrder 1))
    × (plan_p 2 3 4_097 ≡ refused (BadOrder 2))
    × (plan_of upper_block 1 1 9 18 466 ≡ refused NoBlock)
    × (plan_of upper_block 1 3 9 18 466 ≡ refused (BadOrder 1))
    × (plan_of upper_block 1 1 9 0 0 ≡ refused NoBlock)
    × (plan_of (pack_bytes row245) 2 3 9 19 474 ≡ refused (ShortWork 20))
    × (plan_of (pack_bytes row245) 2 3 9 20 474 ≡ refused (ShortOutput 475))
    × (plan_of (pack_bytes row245) 2 3 9 20 475 ≡ accepted (seven_placement 5))
unfolding count every any first_where total up_to flatten floors_down read_groups read_number read_within ascending rows_at member holds together subsets crowded first_crowded first_bad names first_naming read_kind read_nodes read_list read_dark read_base read_layers layers_at first_crowded_of check_length check_end check_ascending check_service check_packings check_rows read_pack check_pack pack_bytes lost_by loss losses figure_of seven_placement loss_of least last_least least_loss best_count named_counts named_split repeated split_placement named_placement has_block check_order check_blocks check_work check_output plan_pack plan
plans = (refl, refl, refl, refl, refl, refl, refl, refl, refl, refl)

-- Request (h): a pack of kind 4 with node 2 of three out of service and one block, 0 1, and two records on it: "The planner copies
-- the list and writes kind 5".
pub list_copied : map_accepted placement_bytes (plan_of (4 ∷ 3 ∷ 2 ∷ 1 ∷ 2 ∷ 1 ∷ 1 ∷ 1 ∷ 0 ∷ 0 ∷ 1 ∷ []) 1 1 2 3 452)
    ≡ accepted (5 ∷ 3 ∷ 2 ∷ 1 ∷ 2 ∷ 1 ∷ 1 ∷ 2 ∷ 0 ∷ 2 ∷ 2 ∷ 0 ∷ 1 ∷ 0 ∷ 1 ∷ [])
unfolding count every any first_where total up_to flatten floors_down groups number_bytes read_groups read_number read_within ascending rows_at member holds together subsets crowded first_crowded first_bad list_numbers head_numbers names first_naming read_kind read_nodes read_list read_dark read_base read_layers layers_at first_crowded_of check_length check_end check_ascending check_service check_packings check_rows read_pack check_pack lost_by loss losses figure_of placement_bytes loss_of least last_least least_loss best_count named_counts named_split repeated split_placement named_placement has_block check_order check_blocks check_work check_output plan_pack plan
list_copied = refl
