-- Document 01's placement of nine records, as kinds 2, 3 and 5, and losses worked by hand. Assumes nothing.
use mathlib.Core.Path.{◌≡◌, refl}
use mathlib.Core.List.{[], ◌∷◌, flatten}
use lib.ListN.{length, take}
use Rattle.lists.specs.Lists.{count, every, any, first_where, total}
use Rattle.refusal.specs.Refusals.{result, refusal}
use Rattle.refusal.specs.Checked.{accepted}
use Rattle.binomial.specs.Choose.{choose}
use Rattle.number.specs.Numbers.{read_groups, read_number, read_within}
use Rattle.packing.specs.Floors.{floors_down}
use Rattle.packing.specs.Rows.{ascending, rows_at, member, distinct, holds, together, subsets, crowded, first_crowded, first_bad}
use Rattle.layers.specs.Layers.{head_numbers, names, first_naming, read_kind, read_nodes, read_list, read_dark, read_layers, layers_at, first_crowded_of, read_base, check_length, check_end, check_ascending, check_service, check_packings}
use Rattle.layers.specs.Answers.{nodes_array}
use Rattle.placement.specs.Figure.{lost_by, loss, losses, figure_of}
use Rattle.placement.specs.declared.Rule.TheVariants.{OneFloor, NestedFloors}
use Rattle.placement.specs.Feeders.{insert, ordered, shares, read_each, read_numbered, read_feeders, check_apart}
use Rattle.placement.specs.Placement.{read_terms, check_records, check_figure, read_placement, check_placement}
use Rattle.placement.specs.Answers.{placement_checked, placement_outcome}
use Rattle.placement.specs.SevenCabinets.{placement_file, listed_file, fed_file, seven_placement, seven_records}

-- the 38 bytes are accepted with figure 5 and, at the figure's place 6, refused with another
pub placements : (length (placement_file 2 5) ≡ 38)
    × (check_placement (placement_file 2 5) ≡ accepted (seven_placement 2))
    × (placement_outcome (placement_checked (read_placement (placement_file 2 5)))
    ≡ result (2 ∷ 7 ∷ 3 ∷ 2 ∷ 3 ∷ 9 ∷ 5 ∷ 11 ∷ 1 ∷ 2 ∷ 1 ∷ 7 ∷ 0 ∷ 0 ∷ 0 ∷ 0 ∷ 0 ∷ 0 ∷ 0 ∷ []))
    × (placement_outcome (placement_checked (read_placement (placement_file 2 4))) ≡ refusal 8 6)
unfolding count every any first_where total flatten choose floors_down read_groups read_number read_within ascending rows_at member holds together subsets crowded first_crowded first_bad read_kind read_layers layers_at first_crowded_of names first_naming read_nodes read_list read_dark read_base check_length check_end check_ascending check_service check_packings read_feeders check_apart check_records lost_by loss losses figure_of read_terms check_figure read_placement check_placement placement_file seven_placement head_numbers nodes_array
placements = (refl, refl, refl, refl)

-- Request (d): "document 01's 38 bytes then begin with 3"; any first number but 2, 3, 5 and 6 is refused
pub placements-of-kind-3 : (check_placement (placement_file 3 5) ≡ accepted (seven_placement 3))
    × (placement_outcome (placement_checked (read_placement (placement_file 3 5)))
    ≡ result (3 ∷ 7 ∷ 3 ∷ 2 ∷ 3 ∷ 9 ∷ 5 ∷ 11 ∷ 1 ∷ 2 ∷ 1 ∷ 7 ∷ 0 ∷ 0 ∷ 0 ∷ 0 ∷ 0 ∷ 0 ∷ 0 ∷ []))
    × (placement_outcome (placement_checked (read_placement (placement_file 3 4))) ≡ refusal 8 6)
    × (placement_outcome (placement_checked (read_placement (placement_file 1 5))) ≡ refusal 3 0)
    × (placement_outcome (placement_checked (read_placement (placement_file 4 5))) ≡ refusal 3 0)
unfolding count every any first_where total flatten choose floors_down read_groups read_number read_within ascending rows_at member holds together subsets crowded first_crowded first_bad read_kind read_layers layers_at first_crowded_of names first_naming read_nodes read_list read_dark read_base check_length check_end check_ascending check_service check_packings read_feeders check_apart check_records lost_by loss losses figure_of read_terms check_figure read_placement check_placement placement_file seven_placement head_numbers nodes_array
placements-of-kind-3 = (refl, refl, refl, refl, refl)

-- Request (h): of kind 5 they are 39 bytes that begin 5 7 3 0 2, with the figure of kind 3. Node 6 out of service is named by row
-- 056 at byte 25; a placement of kind 5 without its list is refused.
pub placements-of-kind-5 : (length (listed_file (0 ∷ []) 5) ≡ 39)
    × (check_placement (listed_file (0 ∷ []) 5) ≡ accepted (seven_placement 5))
    × (placement_outcome (placement_checked (read_placement (listed_file (0 ∷ []) 5)))
    ≡ result (5 ∷ 7 ∷ 3 ∷ 2 ∷ 3 ∷ 9 ∷ 5 ∷ 12 ∷ 1 ∷ 2 ∷ 1 ∷ 7 ∷ 0 ∷ 0 ∷ 0 ∷ 0 ∷ 0 ∷ 0 ∷ 0 ∷ []))
    × (placement_outcome (placement_checked (read_placement (listed_file (0 ∷ []) 4))) ≡ refusal 8 7)
    × (placement_outcome (placement_checked (read_placement (listed_file (1 ∷ 6 ∷ []) 4))) ≡ refusal 15 25)
    × (placement_outcome (placement_checked (read_placement (listed_file (2 ∷ 6 ∷ 6 ∷ []) 5))) ≡ refusal 4 5)
    × (placement_outcome (placement_checked (read_placement (placement_file 5 5))) ≡ refusal 4 5)
    × (take 5 (listed_file (0 ∷ []) 5) ≡ 5 ∷ 7 ∷ 3 ∷ 0 ∷ 2 ∷ [])
unfolding count every any first_where total flatten choose floors_down read_groups read_number read_within ascending rows_at member holds together subsets crowded first_crowded first_bad read_kind read_layers layers_at first_crowded_of names first_naming read_nodes read_list read_dark read_base check_length check_end check_ascending check_service check_packings read_feeders check_apart check_records lost_by loss losses figure_of read_terms check_figure read_placement check_placement placement_file listed_file seven_placement head_numbers nodes_array
placements-of-kind-5 = (refl, refl, refl, refl, refl, refl, refl, refl)

-- Request (n): the same of kind 6, the rows from byte 12 to 39. Each node on a feeder of its own, in any order: the figure of kind 5. No
-- g; g = k, below k, above n; a feeder g; one feeder short; a byte more; nodes 0 and 2 on one feeder, which row 012 has, not
-- neighbours in it; the wrong figure.
pub placements-of-kind-6 : (placement_outcome (placement_checked (read_placement (fed_file 5 (7 ∷ 0 ∷ 1 ∷ 2 ∷ 3 ∷ 4 ∷ 5 ∷ 6 ∷ []))))
    ≡ result (6 ∷ 7 ∷ 3 ∷ 2 ∷ 3 ∷ 9 ∷ 5 ∷ 12 ∷ 1 ∷ 2 ∷ 1 ∷ 7 ∷ 0 ∷ 0 ∷ 0 ∷ 0 ∷ 0 ∷ 0 ∷ 0 ∷ 7 ∷ 0 ∷ 1 ∷ 2 ∷ 3 ∷ 4 ∷ 5 ∷ 6 ∷ []))
    × (placement_outcome (placement_checked (read_placement (fed_file 5 (7 ∷ 6 ∷ 2 ∷ 4 ∷ 0 ∷ 5 ∷ 1 ∷ 3 ∷ []))))
    ≡ result (6 ∷ 7 ∷ 3 ∷ 2 ∷ 3 ∷ 9 ∷ 5 ∷ 12 ∷ 1 ∷ 2 ∷ 1 ∷ 7 ∷ 0 ∷ 0 ∷ 0 ∷ 0 ∷ 0 ∷ 0 ∷ 0 ∷ 7 ∷ 6 ∷ 2 ∷ 4 ∷ 0 ∷ 5 ∷ 1 ∷ 3 ∷ []))
    × (placement_outcome (placement_checked (read_placement (fed_file 5 []))) ≡ refusal 1 39)
    × (placement_outcome (placement_checked (read_placement (fed_file 5 (3 ∷ [])))) ≡ refusal 4 39)
    × (placement_outcome (placement_checked (read_placement (fed_file 5 (2 ∷ [])))) ≡ refusal 4 39)
    × (placement_outcome (placement_checked (read_placement (fed_file 5 (8 ∷ [])))) ≡ refusal 4 39)
    × (placement_outcome (placement_checked (read_placement (fed_file 5 (7 ∷ 0 ∷ 7 ∷ [])))) ≡ refusal 4 41)
    × (placement_outcome (placement_checked (read_placement (fed_file 5 (7 ∷ 0 ∷ 1 ∷ 2 ∷ 3 ∷ 4 ∷ 5 ∷ [])))) ≡ refusal 1 46)
    × (placement_outcome (placement_checked (read_placement (fed_file 5 (7 ∷ 0 ∷ 1 ∷ 2 ∷ 3 ∷ 4 ∷ 5 ∷ 6 ∷ 0 ∷ [])))) ≡ refusal 5 47)
    × (placement_outcome (placement_checked (read_placement (fed_file 5 (7 ∷ 2 ∷ 1 ∷ 2 ∷ 3 ∷ 4 ∷ 5 ∷ 6 ∷ [])))) ≡ refusal 21 12)
    × (placement_outcome (placement_checked (read_placement (fed_file 4 (7 ∷ 0 ∷ 1 ∷ 2 ∷ 3 ∷ 4 ∷ 5 ∷ 6 ∷ [])))) ≡ refusal 8 7)
unfolding count every any first_where total flatten choose floors_down read_groups read_number read_within ascending rows_at member distinct holds together subsets crowded first_crowded first_bad read_kind read_layers layers_at first_crowded_of names first_naming read_nodes read_list read_dark read_base check_length check_end check_ascending check_service check_packings insert ordered shares read_each read_numbered read_feeders check_apart check_records lost_by loss losses figure_of read_terms check_figure read_placement head_numbers fed_file nodes_array
placements-of-kind-6 = (refl, refl, refl, refl, refl, refl, refl, refl, refl, refl, refl)

-- four nodes, rows 01 and 23 of layer 1 with lambda 1, s 2, k 2, g 3: nodes 0 and 2 on feeder 0, 1 and 3 on feeder 1. No two nodes share
-- two rows, but feeders 0 and 1 do: refusal 7 at the first of them. With node 3 on feeder 2 they don't. With rows 02 and 01 the first has two
-- nodes on feeder 0: 21, though with layer 0's lambda 0 its row is crowded too. Of r 3, s 1, k 1 a g of 2 is below r, and 3 is taken.
pub feeders-tested : (placement_outcome (placement_checked (read_placement
    (6 ∷ 4 ∷ 2 ∷ 0 ∷ 2 ∷ 2 ∷ 2 ∷ 1 ∷ 0 ∷ 0 ∷ 1 ∷ 2 ∷ 0 ∷ 1 ∷ 2 ∷ 3 ∷ 3 ∷ 0 ∷ 1 ∷ 0 ∷ 1 ∷ []))) ≡ refusal 7 12)
    × (placement_outcome (placement_checked (read_placement
    (6 ∷ 4 ∷ 2 ∷ 0 ∷ 2 ∷ 2 ∷ 2 ∷ 1 ∷ 0 ∷ 0 ∷ 1 ∷ 2 ∷ 0 ∷ 1 ∷ 2 ∷ 3 ∷ 3 ∷ 0 ∷ 1 ∷ 0 ∷ 2 ∷ [])))
    ≡ result (6 ∷ 4 ∷ 2 ∷ 2 ∷ 2 ∷ 2 ∷ 1 ∷ 12 ∷ 0 ∷ 0 ∷ 1 ∷ 2 ∷ 0 ∷ 0 ∷ 0 ∷ 0 ∷ 0 ∷ 0 ∷ 0 ∷ 3 ∷ 0 ∷ 1 ∷ 0 ∷ 2 ∷ []))
    × (placement_outcome (placement_checked (read_placement
    (6 ∷ 4 ∷ 2 ∷ 0 ∷ 2 ∷ 2 ∷ 2 ∷ 1 ∷ 0 ∷ 1 ∷ 1 ∷ 1 ∷ 0 ∷ 1 ∷ 0 ∷ 2 ∷ 3 ∷ 0 ∷ 1 ∷ 0 ∷ 1 ∷ []))) ≡ refusal 21 14)
    × (placement_outcome (placement_checked (read_placement
    (6 ∷ 4 ∷ 3 ∷ 0 ∷ 1 ∷ 1 ∷ 1 ∷ 0 ∷ 1 ∷ 1 ∷ 0 ∷ 1 ∷ 2 ∷ 2 ∷ 0 ∷ 1 ∷ 0 ∷ 1 ∷ []))) ≡ refusal 4 13)
    × (placement_outcome (placement_checked (read_placement
    (6 ∷ 4 ∷ 3 ∷ 0 ∷ 1 ∷ 1 ∷ 1 ∷ 0 ∷ 1 ∷ 1 ∷ 0 ∷ 1 ∷ 2 ∷ 3 ∷ 2 ∷ 1 ∷ 0 ∷ 1 ∷ [])))
    ≡ result (6 ∷ 4 ∷ 3 ∷ 1 ∷ 1 ∷ 1 ∷ 0 ∷ 10 ∷ 1 ∷ 1 ∷ 0 ∷ 0 ∷ 0 ∷ 0 ∷ 0 ∷ 0 ∷ 0 ∷ 0 ∷ 0 ∷ 3 ∷ 2 ∷ 1 ∷ 0 ∷ 1 ∷ []))
unfolding count every any first_where total flatten choose floors_down read_groups read_number read_within ascending rows_at member distinct holds together subsets crowded first_crowded first_bad read_kind read_layers layers_at first_crowded_of names first_naming read_nodes read_list read_dark read_base check_length check_end check_ascending check_service check_packings insert ordered shares read_each read_numbered read_feeders check_apart check_records lost_by loss losses figure_of read_terms check_figure read_placement head_numbers nodes_array
feeders-tested = (refl, refl, refl, refl, refl)

-- their first row stands at byte 11
pub placement-located : read_placement (placement_file 3 5) ≡ accepted (record { content = seven_placement 3; first = 11 })
unfolding count every any first_where total flatten choose floors_down read_groups read_number read_within ascending rows_at member holds together subsets crowded first_crowded first_bad read_kind read_layers layers_at first_crowded_of names first_naming read_nodes read_list read_dark read_base check_length check_end check_ascending check_service check_packings read_feeders check_apart check_records lost_by loss losses figure_of read_terms check_figure read_placement placement_file seven_placement
placement-located = refl

-- Request (d): "Document 01's pack with s 3, k 4, b 7 then has figure 6 where it had 5", the same rows as kinds 3 and 2
pub same_rows : (placement_outcome (placement_checked (read_placement (seven_records 2 5)))
    ≡ result (2 ∷ 7 ∷ 3 ∷ 3 ∷ 4 ∷ 7 ∷ 5 ∷ 13 ∷ 0 ∷ 0 ∷ 1 ∷ 7 ∷ 0 ∷ 0 ∷ 0 ∷ 0 ∷ 0 ∷ 0 ∷ 0 ∷ []))
    × (placement_outcome (placement_checked (read_placement (seven_records 3 6)))
    ≡ result (3 ∷ 7 ∷ 3 ∷ 3 ∷ 4 ∷ 7 ∷ 6 ∷ 13 ∷ 0 ∷ 0 ∷ 1 ∷ 7 ∷ 0 ∷ 0 ∷ 0 ∷ 0 ∷ 0 ∷ 0 ∷ 0 ∷ []))
    × (placement_outcome (placement_checked (read_placement (seven_records 2 6))) ≡ refusal 8 6)
    × (placement_outcome (placement_checked (read_placement (seven_records 3 5))) ≡ refusal 8 6)
unfolding count every any first_where total flatten choose floors_down read_groups read_number read_within ascending rows_at member holds together subsets crowded first_crowded first_bad read_kind read_layers layers_at first_crowded_of names first_naming read_nodes read_list read_dark read_base check_length check_end check_ascending check_service check_packings read_feeders check_apart check_records lost_by loss losses figure_of read_terms check_figure read_placement seven_records head_numbers nodes_array
same_rows = (refl, refl, refl, refl)

-- s 3, k 5: the losses 5/3 and 10/3 are 1 and 3, though their sum is 5. s 2, k 3: of 2 rows with lambda 3, which 9/2
-- would lose, 2 are lost.
pub figures : (figure_of OneFloor 3 5 20 (record { bound = 1; size = 9 } ∷ record { bound = 1; size = 9 } ∷ record { bound = 0; size = 2 } ∷ []) ≡ 16)
    × (figure_of OneFloor 2 3 9 (record { bound = 3; size = 2 } ∷ record { bound = 1; size = 7 } ∷ []) ≡ 4)
unfolding choose lost_by loss losses figure_of
figures = (refl, refl)

-- Seven rows of P's layer 1, s 3, k 4: 1 × 3 / 2 is 1 and 1 × 4 / 3 is 1, where 6/3 is 2: "figure 6 where it had 5"; of the
-- floors from i = 0 up, 4/3 and 3/2, so too. Lambda 3, s 2, k 3: 3 × 2 / 1 is 6, 6 × 3 / 2 is 9, which are more than 8; from
-- i = 0 up 9/2 is 4 and 4 × 2 is 8. Lambda 1, s 4, k 7, layer 2: 5/2 is 2, 2 × 6 / 3 is 4, 4 × 7 / 4 is 7, where 35/4 is 8.
pub nested-figures : (figure_of OneFloor 3 4 7 (record { bound = 0; size = 0 } ∷ record { bound = 1; size = 7 } ∷ record { bound = 0; size = 0 } ∷ []) ≡ 5)
    × (figure_of NestedFloors 3 4 7 (record { bound = 0; size = 0 } ∷ record { bound = 1; size = 7 } ∷ record { bound = 0; size = 0 } ∷ []) ≡ 6)
    × (figure_of NestedFloors 2 3 20 (record { bound = 0; size = 0 } ∷ record { bound = 3; size = 20 } ∷ []) ≡ 11)
    × (figure_of NestedFloors 2 3 9 (record { bound = 3; size = 2 } ∷ record { bound = 1; size = 7 } ∷ []) ≡ 4)
    × (lost_by NestedFloors 4 7 2 1 ≡ 7)
    × (lost_by OneFloor 4 7 2 1 ≡ 8)
unfolding choose floors_down lost_by loss losses figure_of
nested-figures = (refl, refl, refl, refl, refl, refl)
