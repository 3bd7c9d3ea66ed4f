-- Two small packs joined by hand: mu 2 and 3 make 6, so the first list of blocks comes three times and the second twice, its nodes 3
-- on; in layer 1 only the first has blocks; each has one node out of service. Assumes nothing.
use Prim.Native.Nat.{ℕ}
use mathlib.Core.Path.{◌≡◌, refl}
use mathlib.Core.List.{List, [], ◌∷◌, flatten}
use Rattle.lists.specs.Lists.{count, every, any, first_where, total, largest, up_to}
use Rattle.refusal.specs.declared.Refusal.TheVariants.{Ended, Trailing, Unjoinable, ShortOutput}
use Rattle.refusal.specs.Checked.{accepted, refused, map_accepted}
use Rattle.number.specs.Numbers.{groups, number_bytes, read_groups, read_number, read_within}
use Rattle.packing.specs.Rows.{ascending, rows_at, member, holds, together, subsets, crowded, first_crowded, first_bad}
use Rattle.layers.specs.Layers.{list_numbers, head_numbers, names, first_naming, read_kind, read_nodes, read_list, read_dark, read_layers, layers_at, first_crowded_of, read_base, check_length, check_end, check_ascending, check_service, check_packings, check_rows}
use Rattle.pack.specs.Pack.{Pack, bytes_of_pack, read_pack, check_pack}
use Rattle.pack.specs.SevenCabinets.{seven_pack}
use Rattle.join.specs.Lcm.{first_common, lcm}
use Rattle.join.specs.Join.{shifted, copied, joint_mu, joint_rows, joint_dark, joined_pack, joinable, check_packs, write_joined, join_packs, join}

abbrev row : (a b : ℕ) → List ℕ
row a b = a ∷ b ∷ []

abbrev three-nodes : Pack
three-nodes =
    record {
      n = 3;
      r = 2;
      dark = 2 ∷ [];
      layers = record { bound = 2; rows = row 0 1 ∷ [] } ∷ record { bound = 3; rows = row 0 1 ∷ [] } ∷ [];
    }

abbrev four-nodes : Pack
four-nodes =
    record {
      n = 4;
      r = 2;
      dark = 3 ∷ [];
      layers = record { bound = 3; rows = row 0 1 ∷ row 1 2 ∷ [] } ∷ record { bound = 1; rows = [] } ∷ [];
    }

abbrev seven-nodes : Pack
seven-nodes =
    record {
      n = 7;
      r = 2;
      dark = 2 ∷ 6 ∷ [];
      layers =
          record { bound = 6; rows = row 0 1 ∷ row 0 1 ∷ row 0 1 ∷ row 3 4 ∷ row 4 5 ∷ row 3 4 ∷ row 4 5 ∷ [] }
          ∷ record { bound = 3; rows = row 0 1 ∷ [] }
          ∷ [];
    }

pub joined-by-hand : (joined_pack (three-nodes ∷ four-nodes ∷ []) ≡ seven-nodes)
    × (join_packs (three-nodes ∷ four-nodes ∷ []) 26 ≡ accepted seven-nodes)
    × (join_packs (three-nodes ∷ four-nodes ∷ []) 25 ≡ refused (ShortOutput 26))
    × (join_packs (three-nodes ∷ seven_pack ∷ []) 0 ≡ refused Unjoinable)
unfolding every total largest up_to flatten groups number_bytes list_numbers head_numbers bytes_of_pack seven_pack first_common lcm shifted copied joint_mu joint_rows joint_dark joined_pack joinable write_joined join_packs
joined-by-hand = (refl, refl, refl, refl)

-- request (h): a pack of kind 1 and one of kind 4 give kind 4, and node 2 of the second is node 4 of the joined pack
pub kinds-by-hand : map_accepted bytes_of_pack (join ((1 ∷ 2 ∷ 2 ∷ 1 ∷ 1 ∷ 1 ∷ 0 ∷ 0 ∷ 1 ∷ []) ∷ (4 ∷ 3 ∷ 2 ∷ 1 ∷ 2 ∷ 1 ∷ 1 ∷ 1 ∷ 0 ∷ 0 ∷ 1 ∷ []) ∷ []) 13)
    ≡ accepted (4 ∷ 5 ∷ 2 ∷ 1 ∷ 4 ∷ 1 ∷ 2 ∷ 1 ∷ 0 ∷ 0 ∷ 1 ∷ 2 ∷ 3 ∷ [])
unfolding count every any first_where total largest up_to flatten groups number_bytes read_groups read_number read_within ascending rows_at member holds together subsets crowded first_crowded first_bad list_numbers head_numbers names first_naming read_kind read_nodes read_list read_dark read_layers layers_at first_crowded_of check_length check_end check_ascending check_service check_packings check_rows read_base read_pack check_pack bytes_of_pack first_common lcm shifted copied joint_mu joint_rows joint_dark joined_pack joinable check_packs write_joined join_packs join
kinds-by-hand = refl

-- the second file is cut by a byte, and the place is counted from its own first byte; the first comes first; r differs
pub refused-by-hand : (join ((1 ∷ 2 ∷ 2 ∷ 2 ∷ 0 ∷ 3 ∷ 0 ∷ []) ∷ (1 ∷ 3 ∷ 2 ∷ 3 ∷ 1 ∷ 1 ∷ 0 ∷ 0 ∷ []) ∷ []) 0 ≡ refused (Ended 8))
    × (join ((1 ∷ 2 ∷ 2 ∷ 2 ∷ 0 ∷ 3 ∷ 0 ∷ 9 ∷ []) ∷ (1 ∷ 3 ∷ 2 ∷ 3 ∷ 1 ∷ 1 ∷ 0 ∷ 0 ∷ []) ∷ []) 0 ≡ refused (Trailing 7))
    × (join ((1 ∷ 2 ∷ 2 ∷ 2 ∷ 0 ∷ 3 ∷ 0 ∷ []) ∷ (1 ∷ 3 ∷ 3 ∷ 1 ∷ 0 ∷ 1 ∷ 0 ∷ 1 ∷ 0 ∷ []) ∷ []) 0 ≡ refused Unjoinable)
unfolding count every any first_where total largest up_to flatten read_groups read_number read_within ascending rows_at member holds together subsets crowded first_crowded first_bad names first_naming read_kind read_nodes read_list read_dark read_layers layers_at first_crowded_of check_length check_end check_ascending check_service check_packings check_rows read_base read_pack check_pack head_numbers joint_mu joint_rows joint_dark joined_pack joinable check_packs join_packs join
refused-by-hand = (refl, refl, refl)

-- least common multiples
pub multiples : (lcm 6 4 ≡ 12) × (lcm 4 6 ≡ 12) × (lcm 5 1 ≡ 5) × (lcm 1 5 ≡ 5) × (lcm 63 64 ≡ 4_032) × (lcm 7 7 ≡ 7)
unfolding first_common lcm
multiples = (refl, refl, refl, refl, refl, refl)
