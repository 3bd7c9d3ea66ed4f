-- Grants at their limits, and the order of refusals with document 01's pack P, by computation. Assumes nothing.
use Prim.Native.Nat.{ℕ}
use mathlib.Core.Path.{◌≡◌, refl}
use mathlib.Core.List.{List, [], flatten}
use Rattle.lists.specs.Lists.{count, every, any, first_where, total}
use Rattle.refusal.specs.Checked.{Checked, refused}
use Rattle.refusal.specs.declared.Refusal.TheVariants.{Ended, ShortWork, ShortOutput, BadWish}
use Rattle.number.specs.Numbers.{read_groups, read_number, read_within}
use Rattle.packing.specs.Rows.{ascending, rows_at, member, holds, together, subsets, crowded, first_crowded, first_bad}
use Rattle.packing.specs.SevenCabinets.{row245}
use Rattle.layers.specs.Layers.{names, first_naming, read_kind, read_nodes, read_list, read_dark, read_base, read_layers, layers_at, first_crowded_of, check_length, check_end, check_ascending, check_service, check_packings, check_rows}
use Rattle.pack.specs.Pack.{read_pack, check_pack}
use Rattle.pack.specs.SevenCabinets.{pack_bytes}
use Rattle.placement.specs.Placement.{Placement}
use Rattle.split.specs.Splits.{has_block}
use Rattle.planner.specs.Planning.{check_order, check_blocks, check_work, check_output, plan_pack, plan}
use Rattle.operators.specs.Operators.{grant, check_wish, plan_operator}

-- both want all, one wants more than half, neither does; beside a small wish the other has what is left
pub grants : (grant 4_096 4_096 ≡ 2_048)
    × (grant 2_049 4_096 ≡ 2_048)
    × (grant 2_048 4_096 ≡ 2_048)
    × (grant 2_047 4_096 ≡ 2_047)
    × (grant 4_096 1 ≡ 4_095)
    × (grant 4_095 1 ≡ 4_095)
    × (grant 1 4_096 ≡ 1)
    × (grant 4_096 2_047 ≡ 2_049)
    × (grant 2_049 2_047 ≡ 2_049)
    × (grant 3_000 1_500 ≡ 2_596)
unfolding grant
grants = (refl, refl, refl, refl, refl, refl, refl, refl, refl, refl)

-- what the call gives for a pack with s = 2 and k = 3
abbrev asks : (pack : List ℕ) (wish other work output : ℕ) → Checked Placement
asks pack wish other work output = plan_operator pack (record { s = 2; k = 3; wish = wish; other = other }) work output

-- 14 for either wish, before the pack is checked; a wish of 4,096 is taken; refusals 10 and 11 tell what is planned: the grant
pub wishes : (asks [] 0 1 0 0 ≡ refused BadWish)
    × (asks [] 1 0 0 0 ≡ refused BadWish)
    × (asks [] 4_097 1 0 0 ≡ refused BadWish)
    × (asks [] 1 4_097 0 0 ≡ refused BadWish)
    × (asks [] 4_096 4_096 0 0 ≡ refused (Ended 0))
    × (asks (pack_bytes row245) 4_096 4_096 0 0 ≡ refused (ShortWork 4_098))
    × (asks (pack_bytes row245) 4_096 1_500 0 0 ≡ refused (ShortWork 5_194))
    × (asks (pack_bytes row245) 1_500 4_096 3_002 0 ≡ refused (ShortOutput 4_948))
unfolding count every any first_where total flatten read_groups read_number read_within ascending rows_at member holds together subsets crowded first_crowded first_bad names first_naming read_kind read_nodes read_list read_dark read_base read_layers layers_at first_crowded_of check_length check_end check_ascending check_service check_packings check_rows read_pack check_pack pack_bytes has_block check_order check_blocks check_work check_output plan_pack plan grant check_wish plan_operator
wishes = (refl, refl, refl, refl, refl, refl, refl, refl)
