-- Document 01's cases of packs, and the edges of n, by computation. Assumes nothing.
use Prim.Native.Nat.{ℕ}
use mathlib.Core.Path.{◌≡◌, refl}
use mathlib.Core.List.{List, [], ◌∷◌, ◌++◌, flatten}
use lib.ListN.{length}
use Rattle.lists.specs.Lists.{count, every, any, first_where, total}
use Rattle.refusal.specs.declared.Refusal.TheVariants.{WrongKind, OutsideLimits}
use Rattle.refusal.specs.Refusals.{result, refusal}
use Rattle.refusal.specs.Checked.{Checked, accepted, refused, map_accepted}
use Rattle.number.specs.Numbers.{read_groups, read_number, read_within}
use Rattle.packing.specs.Rows.{ascending, rows_at, member, holds, together, subsets, crowded, first_crowded, first_bad}
use Rattle.packing.specs.SevenCabinets.{row245}
use Rattle.layers.specs.Layers.{head_numbers, names, first_naming, read_kind, read_nodes, read_list, read_dark, read_layers, layers_at, first_crowded_of, read_base, check_length, check_end, check_ascending, check_service, check_packings, check_rows}
use Rattle.layers.specs.Answers.{nodes_array}
use Rattle.pack.specs.Pack.{read_pack, check_pack}
use Rattle.pack.specs.Answers.{pack_checked, pack_outcome}
use Rattle.pack.specs.SevenCabinets.{pack_bytes, listed_bytes, seven_pack}

-- "Its 36 bytes are accepted." "P's layer 1 with its last row 246: refusal 7, place 27 (row 146 shares 4 and 6 with it)."
pub packs : (length (pack_bytes row245) ≡ 36)
    × (check_pack (pack_bytes row245) ≡ accepted seven_pack)
    × (pack_outcome (pack_checked (read_pack (pack_bytes row245)))
    ≡ result (7 ∷ 3 ∷ 9 ∷ 1 ∷ 2 ∷ 1 ∷ 7 ∷ 1 ∷ 0 ∷ 0 ∷ 0 ∷ 0 ∷ 0 ∷ 0 ∷ []))
    × (pack_outcome (pack_checked (read_pack (pack_bytes (2 ∷ 4 ∷ 6 ∷ [])))) ≡ refusal 7 27)
unfolding count every any first_where total flatten read_groups read_number read_within ascending rows_at member holds together subsets crowded first_crowded first_bad read_kind read_layers layers_at first_crowded_of names first_naming read_nodes read_list read_dark check_length check_end check_ascending check_service check_packings check_rows read_base read_pack check_pack pack_bytes seven_pack head_numbers nodes_array
packs = (refl, refl, refl, refl)

-- Request (h): P of kind 4 with an empty list is P; node 6 out of service is named by row 056 at byte 23, before a crowded row
-- and after a bad one, at byte 35; all nodes of a pack without blocks may be out of service.
pub listed-packs : (pack_outcome (pack_checked (read_pack (listed_bytes (0 ∷ []) row245)))
    ≡ result (7 ∷ 3 ∷ 10 ∷ 1 ∷ 2 ∷ 1 ∷ 7 ∷ 1 ∷ 0 ∷ 0 ∷ 0 ∷ 0 ∷ 0 ∷ 0 ∷ []))
    × (check_pack (listed_bytes (0 ∷ []) row245) ≡ accepted seven_pack)
    × (pack_outcome (pack_checked (read_pack (listed_bytes (1 ∷ 6 ∷ []) (2 ∷ 4 ∷ 6 ∷ [])))) ≡ refusal 15 23)
    × (pack_outcome (pack_checked (read_pack (listed_bytes (1 ∷ 6 ∷ []) (2 ∷ 4 ∷ 7 ∷ [])))) ≡ refusal 6 35)
    × (pack_outcome (pack_checked (read_pack (4 ∷ 2 ∷ 2 ∷ 2 ∷ 0 ∷ 1 ∷ 1 ∷ 0 ∷ 1 ∷ 0 ∷ [])))
    ≡ result (2 ∷ 2 ∷ 10 ∷ 1 ∷ 0 ∷ 1 ∷ 0 ∷ 0 ∷ 0 ∷ 0 ∷ 0 ∷ 0 ∷ 0 ∷ 2 ∷ 0 ∷ 1 ∷ []))
unfolding count every any first_where total flatten read_groups read_number read_within ascending rows_at member holds together subsets crowded first_crowded first_bad read_kind read_layers layers_at first_crowded_of names first_naming read_nodes read_list read_dark check_length check_end check_ascending check_service check_packings check_rows read_base read_pack check_pack listed_bytes seven_pack head_numbers nodes_array
listed-packs = (refl, refl, refl, refl, refl)

-- the nodes of a pack without blocks whose n has these bytes
abbrev pub nodes_of : List ℕ → Checked ℕ
nodes_of n = map_accepted (λ p. p.n) (check_pack ((1 ∷ []) ++ n ++ (2 ∷ 1 ∷ 0 ∷ 1 ∷ 0 ∷ [])))

-- "So 255 nodes are taken and 256 are not"; 1 is not; and a placement's kinds are not a pack's
pub pack-edges : (nodes_of (255 ∷ 1 ∷ []) ≡ accepted 255)
    × (nodes_of (128 ∷ 2 ∷ []) ≡ refused (OutsideLimits 1))
    × (nodes_of (2 ∷ []) ≡ accepted 2)
    × (nodes_of (1 ∷ []) ≡ refused (OutsideLimits 1))
    × (check_pack (2 ∷ 7 ∷ []) ≡ refused WrongKind)
    × (check_pack (3 ∷ 7 ∷ []) ≡ refused WrongKind)
unfolding count every any first_where total flatten read_groups read_number read_within first_bad read_kind read_layers layers_at first_crowded_of names first_naming read_nodes read_list read_dark check_length check_end check_ascending check_service check_packings check_rows read_base read_pack check_pack first_crowded rows_at
pack-edges = (refl, refl, refl, refl, refl, refl)
