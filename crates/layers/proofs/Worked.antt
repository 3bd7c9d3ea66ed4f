-- The order of checks on the rows, on cases worked by hand: two layers of one row each, r = 2, n = 3, from place 1; and lists of
-- nodes out of service. Assumes nothing.
use Prim.Native.Nat.{ℕ}
use mathlib.Core.Path.{◌≡◌, refl}
use mathlib.Core.List.{List, [], ◌∷◌, flatten}
use mathlib.Core.Bool.{true, false}
use mathlib.Core.Option.{none, some}
use Rattle.lists.specs.Lists.{count, every, any, first_where, total}
use Rattle.refusal.specs.declared.Refusal.TheVariants.{Ended, OutsideLimits, Trailing, BadRow, OutOfService, Crowded}
use Rattle.refusal.specs.Checked.{Checked, accepted, refused}
use Rattle.number.specs.Numbers.{read_groups, read_number, read_within}
use Rattle.packing.specs.Rows.{ascending, rows_at, member, holds, together, subsets, crowded, first_crowded, first_bad}
use Rattle.layers.specs.Layers.{Layer, NodesReading, is_kind, layers_at, names, first_naming, first_crowded_of, read_nodes, read_list, read_dark, check_length, check_end, check_ascending, check_service, check_packings, check_rows}
use Rattle.layers.specs.declared.FileKind.TheVariants.{Pack, Placement}

-- the rows of two layers, with bounds 0 and 1, and these nodes out of service
abbrev pub rows_of : (dark rows : List ℕ) → Checked (List Layer)
rows_of dark rows =
    check_rows (record { n = 3; r = 2; dark = dark }) (record { bound = 0; size = 1 } ∷ record { bound = 1; size = 1 } ∷ []) (9 ∷ rows) 1

-- one byte short; one byte over; a bad row in layer 1 after a crowded one in layer 0; a crowded row
pub order-of-checks : (rows_of [] (0 ∷ 0 ∷ 1 ∷ []) ≡ refused (Ended 4))
    × (rows_of [] (0 ∷ 0 ∷ 1 ∷ 2 ∷ 3 ∷ []) ≡ refused (Trailing 5))
    × (rows_of [] (0 ∷ 1 ∷ 2 ∷ 1 ∷ []) ≡ refused (BadRow 3))
    × (rows_of [] (0 ∷ 1 ∷ 1 ∷ 2 ∷ []) ≡ refused (Crowded 1))
unfolding count every any first_where total flatten ascending rows_at member holds together subsets crowded first_crowded first_bad layers_at names first_naming first_crowded_of check_length check_end check_ascending check_service check_packings check_rows
order-of-checks = (refl, refl, refl, refl)

-- node 2 out of service, named by the last node of layer 1's row after a crowded row in layer 0; node 0, named before a bad row
pub service-in-order : (rows_of (2 ∷ []) (0 ∷ 1 ∷ 1 ∷ 2 ∷ []) ≡ refused (OutOfService 3))
    × (rows_of (0 ∷ []) (0 ∷ 1 ∷ 2 ∷ 1 ∷ []) ≡ refused (BadRow 3))
    × (rows_of (0 ∷ 1 ∷ 2 ∷ []) (0 ∷ 1 ∷ 1 ∷ 2 ∷ []) ≡ refused (OutOfService 1))
unfolding count every any first_where total flatten ascending rows_at member holds together subsets crowded first_crowded first_bad layers_at names first_naming first_crowded_of check_length check_end check_ascending check_service check_packings check_rows
service-in-order = (refl, refl, refl)

-- a list of a file with 3 nodes, from place 1
abbrev pub list_of : (kind : ℕ) (list : List ℕ) → Checked NodesReading
list_of kind list = read_dark kind 3 (9 ∷ list) 1

-- no node, one, all three, padded; a count above n; a number twice, a lower one, n itself; kind 6 has a list too; kinds without one
pub lists-read : (list_of 4 (0 ∷ []) ≡ accepted (record { nodes = []; next = 2 }))
    × (list_of 5 (1 ∷ 2 ∷ []) ≡ accepted (record { nodes = 2 ∷ []; next = 3 }))
    × (list_of 4 (131 ∷ 0 ∷ 0 ∷ 129 ∷ 0 ∷ 2 ∷ []) ≡ accepted (record { nodes = 0 ∷ 1 ∷ 2 ∷ []; next = 7 }))
    × (list_of 4 (4 ∷ []) ≡ refused (OutsideLimits 1))
    × (list_of 4 (2 ∷ 1 ∷ 1 ∷ []) ≡ refused (OutsideLimits 3))
    × (list_of 5 (2 ∷ 1 ∷ 0 ∷ []) ≡ refused (OutsideLimits 3))
    × (list_of 5 (1 ∷ 3 ∷ []) ≡ refused (OutsideLimits 2))
    × (list_of 4 (1 ∷ []) ≡ refused (Ended 2))
    × (list_of 6 (1 ∷ 2 ∷ []) ≡ accepted (record { nodes = 2 ∷ []; next = 3 }))
    × (list_of 1 (4 ∷ []) ≡ accepted (record { nodes = []; next = 1 }))
    × (list_of 3 (4 ∷ []) ≡ accepted (record { nodes = []; next = 1 }))
unfolding read_groups read_number read_within read_nodes read_list read_dark
lists-read = (refl, refl, refl, refl, refl, refl, refl, refl, refl, refl, refl)

-- rows 01 and 02 share node 0, which layer 1 allows and layer 0 does not; the place counts the rows of layer 0
pub layer-numbers :
    (first_crowded_of 0 (record { bound = 1; rows = (0 ∷ 1 ∷ []) ∷ [] } ∷ record { bound = 1; rows = (0 ∷ 1 ∷ []) ∷ (0 ∷ 2 ∷ []) ∷ [] } ∷ []) ≡ none)
    ×
    (first_crowded_of 0
    (record { bound = 1; rows = (0 ∷ 1 ∷ []) ∷ [] } ∷ record {
      bound = 1;
      rows = (0 ∷ 2 ∷ []) ∷ (0 ∷ 1 ∷ []) ∷
          (0 ∷ 1 ∷ []) ∷ [];
    } ∷ []) ≡ some 2)
unfolding count every any first_where member holds together subsets crowded first_crowded first_crowded_of
layer-numbers = (refl, refl)

-- a pack's first number is 1 or 4, a placement's 2, 3, 5 or 6
pub kinds : (is_kind Pack 1 ≡ true)
    × (is_kind Pack 2 ≡ false)
    × (is_kind Pack 4 ≡ true)
    × (is_kind Pack 5 ≡ false)
    × (is_kind Placement 1 ≡ false)
    × (is_kind Placement 2 ≡ true)
    × (is_kind Placement 3 ≡ true)
    × (is_kind Placement 4 ≡ false)
    × (is_kind Placement 5 ≡ true)
    × (is_kind Placement 6 ≡ true)
    × (is_kind Placement 7 ≡ false)
kinds = (refl, refl, refl, refl, refl, refl, refl, refl, refl, refl, refl)
