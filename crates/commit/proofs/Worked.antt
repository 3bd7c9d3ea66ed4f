-- Document 01's orders with the pack P asked and committed, and the order of refusals, by computation. Assumes nothing.
use Prim.Native.Nat.{ℕ}
use mathlib.Core.Path.{◌≡◌, refl}
use mathlib.Core.List.{List, [], ◌∷◌, flatten, map}
use Rattle.lists.specs.Lists.{count, every, any, first_where, total, up_to}
use Rattle.refusal.specs.Checked.{Checked, accepted, refused, map_accepted}
use Rattle.refusal.specs.declared.Refusal.TheVariants.{Ended, BadOrder, NoBlock, ShortWork, ShortOutput, BadCounts}
use Rattle.number.specs.Numbers.{read_groups, read_number, read_within}
use Rattle.packing.specs.Floors.{floors_down}
use Rattle.packing.specs.Rows.{ascending, rows_at, member, holds, together, subsets, crowded, first_crowded, first_bad, repeated}
use Rattle.packing.specs.SevenCabinets.{row245}
use Rattle.layers.specs.Layers.{names, first_naming, read_kind, read_nodes, read_list, read_dark, read_base, read_layers, layers_at, first_crowded_of, check_length, check_end, check_ascending, check_service, check_packings, check_rows}
use Rattle.pack.specs.Pack.{read_pack, check_pack}
use Rattle.pack.specs.SevenCabinets.{pack_bytes}
use Rattle.placement.specs.Figure.{lost_by, loss, losses, figure_of}
use Rattle.placement.specs.Placement.{Placement}
use Rattle.split.specs.Splits.{loss_of, least, last_least, least_loss, best_count, named_counts, named_split, has_block}
use Rattle.planner.specs.Planning.{split_placement, named_placement, check_order, check_blocks, check_work, check_output, plan_pack, plan, output_needed}
use Rattle.planner.specs.Answers.{counts_of}
use Rattle.planner.specs.SevenCabinets.{plan_p}
use Rattle.commit.specs.Asking.{Offer, named_offer, ask_layers, ask, offer_values}
use Rattle.commit.specs.Committing.{counts_taken, check_counts, commit_pack, commit}

-- P, and a pack of one block, 0 1, in layer 1
abbrev pack_p : List ℕ
pack_p = pack_bytes row245

abbrev upper_block : List ℕ
upper_block = 1 ∷ 3 ∷ 2 ∷ 1 ∷ 0 ∷ 1 ∷ 1 ∷ 0 ∷ 1 ∷ []

abbrev asks : (pack : List ℕ) (s k b work : ℕ) → Checked Offer
asks pack s k b work = ask pack (record { s = s; k = k; b = b }) work

-- F, the counts and the copies. 9 records with k = 3: 2 of layer 0 and 7 of layer 1, the blocks once each. With s = 3 and k = 4 the
-- third record of layer 0, which has two blocks, needs a second copy of them.
pub asked : (map_accepted offer_values (asks pack_p 2 3 9 20) ≡ accepted (5 ∷ 2 ∷ 7 ∷ 0 ∷ 0 ∷ 0 ∷ 1 ∷ 1 ∷ 0 ∷ 0 ∷ 0 ∷ []))
    × (map_accepted offer_values (asks pack_p 2 2 9 20) ≡ accepted (7 ∷ 0 ∷ 9 ∷ 0 ∷ 0 ∷ 0 ∷ 0 ∷ 2 ∷ 0 ∷ 0 ∷ 0 ∷ []))
    × (map_accepted offer_values (asks pack_p 3 4 10 33) ≡ accepted (7 ∷ 3 ∷ 7 ∷ 0 ∷ 0 ∷ 0 ∷ 2 ∷ 1 ∷ 0 ∷ 0 ∷ 0 ∷ []))
    × (asks [] 2 3 9 0 ≡ refused (Ended 0))
    × (asks pack_p 2 3 4_097 0 ≡ refused (BadOrder 2))
    × (asks upper_block 1 1 9 0 ≡ refused NoBlock)
    × (asks pack_p 2 3 9 19 ≡ refused (ShortWork 20))
unfolding count every any first_where total up_to flatten floors_down read_groups read_number read_within ascending rows_at member holds together subsets crowded first_crowded first_bad names first_naming read_kind read_nodes read_list read_dark read_base read_layers layers_at first_crowded_of check_length check_end check_ascending check_service check_packings check_rows read_pack check_pack pack_bytes lost_by loss losses figure_of loss_of least last_least least_loss best_count named_counts named_split has_block check_order check_blocks check_work named_offer ask_layers ask
asked = (refl, refl, refl, refl, refl, refl, refl)

abbrev commits : (pack : List ℕ) (s k b c₀ c₁ c₂ output : ℕ) → Checked Placement
commits pack s k b c₀ c₁ c₂ output = commit pack (record { s = s; k = k; b = b }) (c₀ ∷ c₁ ∷ c₂ ∷ 0 ∷ 0 ∷ []) output

-- the figure, and lambda of each layer: "least copies"
abbrev figure_is : Placement → List ℕ
figure_is p = p.figure ∷ map (λ layer. layer.bound) p.layers

-- Committing what was asked gives what planning gives. All nine records of layer 0 need five copies of its two blocks and lose
-- 5 × 3 / 2, so seven; with two and seven records the split is the named one.
pub committed : (commits pack_p 2 3 9 2 7 0 (output_needed 9 3) ≡ plan_p 2 3 9)
    × (map_accepted figure_is (commits pack_p 2 3 9 9 0 0 (output_needed 9 3)) ≡ accepted (2 ∷ 5 ∷ 0 ∷ []))
    × (map_accepted counts_of (commits pack_p 2 3 9 9 0 0 (output_needed 9 3)) ≡ accepted (9 ∷ 0 ∷ 0 ∷ 0 ∷ 0 ∷ []))
    × (map_accepted figure_is (commits pack_p 2 3 9 0 9 0 (output_needed 9 3)) ≡ accepted (3 ∷ 0 ∷ 2 ∷ []))
unfolding count every any first_where total up_to flatten floors_down read_groups read_number read_within ascending rows_at member holds together subsets crowded first_crowded first_bad names first_naming read_kind read_nodes read_list read_dark read_base read_layers layers_at first_crowded_of check_length check_end check_ascending check_service check_packings check_rows read_pack check_pack pack_bytes lost_by loss losses figure_of loss_of least last_least least_loss best_count named_counts named_split repeated split_placement named_placement has_block check_order check_blocks check_work check_output plan_pack plan counts_taken check_counts commit_pack commit
committed = (refl, refl, refl, refl)

-- the pack's refusal, 12, 9, 16, 11 in this order; 16 for counts that sum to less or to more, for a record in a layer without
-- blocks, and for one in layer s, also where the counts below s sum to b
pub refusals : (commits [] 2 3 9 2 6 0 0 ≡ refused (Ended 0))
    × (commits pack_p 2 7 9 2 6 0 0 ≡ refused (BadOrder 1))
    × (commits upper_block 1 1 9 0 0 0 0 ≡ refused NoBlock)
    × (commits pack_p 2 3 9 2 6 0 0 ≡ refused BadCounts)
    × (commits pack_p 2 3 9 3 7 0 0 ≡ refused BadCounts)
    × (commits pack_p 3 3 9 2 6 1 0 ≡ refused BadCounts)
    × (commits pack_p 1 3 9 8 1 0 0 ≡ refused BadCounts)
    × (commits pack_p 1 3 9 9 1 0 0 ≡ refused BadCounts)
    × (commits pack_p 2 3 9 2 7 0 0 ≡ refused (ShortOutput (output_needed 9 3)))
unfolding count every any first_where total up_to flatten read_groups read_number read_within ascending rows_at member holds together subsets crowded first_crowded first_bad names first_naming read_kind read_nodes read_list read_dark read_base read_layers layers_at first_crowded_of check_length check_end check_ascending check_service check_packings check_rows read_pack check_pack pack_bytes has_block check_order check_blocks check_output counts_taken check_counts commit_pack commit
refusals = (refl, refl, refl, refl, refl, refl, refl, refl, refl)
