-- Small files of bare rows by hand, by computation. Assumes nothing.
use mathlib.Core.Path.{◌≡◌, refl}
use mathlib.Core.List.{[], ◌∷◌, flatten}
use Rattle.lists.specs.Lists.{every, any, first_where}
use Rattle.number.specs.Numbers.{read_groups, read_number, read_within}
use Rattle.packing.specs.Rows.{ascending, rows_at, member, first_bad}
use Rattle.layers.specs.Layers.{names, first_naming, read_nodes, read_list, read_dark, check_length, check_end, check_ascending, check_service}
use Rattle.certify.specs.Bare.{read_seven, read_start, read_order, check_bare_rows, read_bare, check_bare}
use Rattle.report.specs.Programs.{digits, decimal, rest}
use Rattle.rows_text_print.specs.Printing.{rows_text, listing_reply}

-- `rows 3 2`, `out 1`, `order 2 2` and one row, of a file whose n is padded; two rows with nodes of two digits; s of 0; a row that names node
-- 1, which is out of service
pub listed : (listing_reply (7 ∷ 131 ∷ 0 ∷ 2 ∷ 1 ∷ 1 ∷ 2 ∷ 2 ∷ 1 ∷ 0 ∷ 2 ∷ [])
    ≡ 114 ∷ 111 ∷ 119 ∷ 115 ∷ 32 ∷ 51 ∷ 32 ∷ 50 ∷ 10 ∷ 111 ∷ 117 ∷ 116 ∷ 32 ∷ 49 ∷ 10 ∷ 111 ∷ 114 ∷ 100 ∷ 101 ∷ 114 ∷ 32 ∷ 50 ∷ 32 ∷ 50 ∷ 10 ∷ 32 ∷ 48 ∷ 32 ∷ 50 ∷ 10 ∷ [])
    × (listing_reply (7 ∷ 12 ∷ 2 ∷ 0 ∷ 1 ∷ 10 ∷ 2 ∷ 0 ∷ 10 ∷ 9 ∷ 11 ∷ [])
    ≡ 114 ∷ 111 ∷ 119 ∷ 115 ∷ 32 ∷ 49 ∷ 50 ∷ 32 ∷ 50 ∷ 10 ∷ 111 ∷ 114 ∷ 100 ∷ 101 ∷ 114 ∷ 32 ∷ 49 ∷ 32 ∷ 49 ∷ 48 ∷ 10 ∷ 32 ∷ 48 ∷ 32 ∷ 49 ∷ 48 ∷ 10 ∷ 32 ∷ 57 ∷ 32 ∷ 49 ∷ 49 ∷ 10 ∷ [])
    × (listing_reply (7 ∷ 3 ∷ 2 ∷ 0 ∷ 0 ∷ [])
    ≡ 114 ∷ 101 ∷ 102 ∷ 117 ∷ 115 ∷ 101 ∷ 100 ∷ 32 ∷ 52 ∷ 32 ∷ 52 ∷ 10 ∷ [])
    × (listing_reply (7 ∷ 3 ∷ 2 ∷ 1 ∷ 1 ∷ 1 ∷ 1 ∷ 2 ∷ 0 ∷ 2 ∷ 0 ∷ 1 ∷ [])
    ≡ 114 ∷ 101 ∷ 102 ∷ 117 ∷ 115 ∷ 101 ∷ 100 ∷ 32 ∷ 49 ∷ 53 ∷ 32 ∷ 49 ∷ 48 ∷ 10 ∷ [])
unfolding every any first_where flatten read_groups read_number read_within ascending rows_at member first_bad names first_naming read_nodes read_list read_dark check_length check_end check_ascending check_service read_seven read_start read_order check_bare_rows read_bare check_bare digits decimal rest rows_text listing_reply
listed = (refl, refl, refl, refl)
