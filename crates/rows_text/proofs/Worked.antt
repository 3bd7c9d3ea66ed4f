-- Small texts by hand, by computation. Assumes nothing.
use mathlib.Core.Path.{◌≡◌, refl}
use mathlib.Core.List.{[], ◌∷◌, flatten}
use Rattle.lists.specs.Lists.{count, every, any, first_where, total}
use Rattle.number.specs.Numbers.{groups, number_bytes, read_groups, read_number, read_within}
use Rattle.packing.specs.Rows.{ascending, rows_at, member, first_bad}
use Rattle.layers.specs.Layers.{names, first_naming, read_nodes, read_list, read_dark, check_length, check_end, check_ascending, check_service}
use Rattle.certify.specs.Bare.{read_seven, read_start, read_order, check_bare_rows, read_bare}
use Rattle.table.specs.Told.{good, bad}
use Rattle.table.specs.Lines.{lines_of, before, begins, read_numbers}
use Rattle.table.specs.Reading.{head_taken, add_table, add_out, add_block, draft_bytes, line_at}
use Rattle.rows_text.specs.Words.{word_of}
use Rattle.rows_text.specs.Reading.{order_taken, add_order, add_numbers, add_content, add_line, read_lines, read_text}
use Rattle.rows_text.specs.Making.{rows_draft, rows_of}

-- two rows, with a comment, a blank line and no newline at the end; one, with node 1 out of service
pub made : (rows_of (114 ∷ 111 ∷ 119 ∷ 115 ∷ 32 ∷ 51 ∷ 32 ∷ 50 ∷ 10 ∷ 111 ∷ 114 ∷ 100 ∷ 101 ∷ 114 ∷ 32 ∷ 49 ∷ 32 ∷ 50 ∷ 32 ∷ 35 ∷ 32 ∷ 120 ∷ 61 ∷ 48 ∷ 10 ∷ 10 ∷ 48 ∷ 32 ∷ 50 ∷ 10 ∷ 48 ∷ 32 ∷ 49 ∷ [])
    ≡ good (7 ∷ 3 ∷ 2 ∷ 0 ∷ 1 ∷ 2 ∷ 2 ∷ 0 ∷ 2 ∷ 0 ∷ 1 ∷ []))
    × (rows_of (114 ∷ 111 ∷ 119 ∷ 115 ∷ 32 ∷ 51 ∷ 32 ∷ 50 ∷ 10 ∷ 111 ∷ 117 ∷ 116 ∷ 32 ∷ 49 ∷ 10 ∷ 111 ∷ 114 ∷ 100 ∷ 101 ∷ 114 ∷ 32 ∷ 50 ∷ 32 ∷ 50 ∷ 10 ∷ 48 ∷ 32 ∷ 50 ∷ 10 ∷ [])
    ≡ good (7 ∷ 3 ∷ 2 ∷ 1 ∷ 1 ∷ 2 ∷ 2 ∷ 1 ∷ 0 ∷ 2 ∷ []))
unfolding count every any first_where total flatten groups number_bytes read_groups read_number read_within ascending rows_at member first_bad names first_naming read_nodes read_list read_dark check_length check_end check_ascending check_service read_seven read_start read_order check_bare_rows read_bare lines_of before begins read_numbers head_taken add_table add_out add_block draft_bytes line_at word_of order_taken add_order add_numbers add_content add_line read_lines read_text rows_draft rows_of
made = (refl, refl)

-- a row before the order; another word; a second order; s of 0; s above r; k below s; k of n; no node in service; a row that does not ascend; no row; a row that names node 1, which is out of service
pub faults : (rows_of (114 ∷ 111 ∷ 119 ∷ 115 ∷ 32 ∷ 51 ∷ 32 ∷ 50 ∷ 10 ∷ 48 ∷ 32 ∷ 49 ∷ [])
    ≡ bad (record { number = 23; place = 2 }))
    × (rows_of (116 ∷ 97 ∷ 98 ∷ 108 ∷ 101 ∷ 32 ∷ 51 ∷ 32 ∷ 50 ∷ [])
    ≡ bad (record { number = 23; place = 1 }))
    × (rows_of (114 ∷ 111 ∷ 119 ∷ 115 ∷ 32 ∷ 51 ∷ 32 ∷ 50 ∷ 10 ∷ 111 ∷ 114 ∷ 100 ∷ 101 ∷ 114 ∷ 32 ∷ 49 ∷ 32 ∷ 49 ∷ 10 ∷ 111 ∷ 114 ∷ 100 ∷ 101 ∷ 114 ∷ 32 ∷ 49 ∷ 32 ∷ 49 ∷ [])
    ≡ bad (record { number = 23; place = 3 }))
    × (rows_of (114 ∷ 111 ∷ 119 ∷ 115 ∷ 32 ∷ 51 ∷ 32 ∷ 50 ∷ 10 ∷ 111 ∷ 114 ∷ 100 ∷ 101 ∷ 114 ∷ 32 ∷ 48 ∷ 32 ∷ 49 ∷ [])
    ≡ bad (record { number = 4; place = 2 }))
    × (rows_of (114 ∷ 111 ∷ 119 ∷ 115 ∷ 32 ∷ 57 ∷ 32 ∷ 50 ∷ 10 ∷ 111 ∷ 114 ∷ 100 ∷ 101 ∷ 114 ∷ 32 ∷ 51 ∷ 32 ∷ 51 ∷ [])
    ≡ bad (record { number = 4; place = 2 }))
    × (rows_of (114 ∷ 111 ∷ 119 ∷ 115 ∷ 32 ∷ 51 ∷ 32 ∷ 50 ∷ 10 ∷ 111 ∷ 114 ∷ 100 ∷ 101 ∷ 114 ∷ 32 ∷ 50 ∷ 32 ∷ 49 ∷ [])
    ≡ bad (record { number = 4; place = 2 }))
    × (rows_of (114 ∷ 111 ∷ 119 ∷ 115 ∷ 32 ∷ 51 ∷ 32 ∷ 50 ∷ 10 ∷ 111 ∷ 114 ∷ 100 ∷ 101 ∷ 114 ∷ 32 ∷ 49 ∷ 32 ∷ 51 ∷ [])
    ≡ bad (record { number = 4; place = 2 }))
    × (rows_of (114 ∷ 111 ∷ 119 ∷ 115 ∷ 32 ∷ 51 ∷ 32 ∷ 50 ∷ 10 ∷ 111 ∷ 117 ∷ 116 ∷ 32 ∷ 48 ∷ 32 ∷ 49 ∷ 32 ∷ 50 ∷ 10 ∷ 111 ∷ 114 ∷ 100 ∷ 101 ∷ 114 ∷ 32 ∷ 49 ∷ 32 ∷ 49 ∷ [])
    ≡ bad (record { number = 4; place = 3 }))
    × (rows_of (114 ∷ 111 ∷ 119 ∷ 115 ∷ 32 ∷ 51 ∷ 32 ∷ 50 ∷ 10 ∷ 111 ∷ 114 ∷ 100 ∷ 101 ∷ 114 ∷ 32 ∷ 49 ∷ 32 ∷ 49 ∷ 10 ∷ 50 ∷ 32 ∷ 48 ∷ [])
    ≡ bad (record { number = 6; place = 3 }))
    × (rows_of (114 ∷ 111 ∷ 119 ∷ 115 ∷ 32 ∷ 51 ∷ 32 ∷ 50 ∷ 10 ∷ 111 ∷ 114 ∷ 100 ∷ 101 ∷ 114 ∷ 32 ∷ 49 ∷ 32 ∷ 49 ∷ 10 ∷ [])
    ≡ bad (record { number = 1; place = 3 }))
    × (rows_of (114 ∷ 111 ∷ 119 ∷ 115 ∷ 32 ∷ 51 ∷ 32 ∷ 50 ∷ 10 ∷ 111 ∷ 117 ∷ 116 ∷ 32 ∷ 49 ∷ 10 ∷ 111 ∷ 114 ∷ 100 ∷ 101 ∷ 114 ∷ 32 ∷ 49 ∷ 32 ∷ 49 ∷ 10 ∷ 48 ∷ 32 ∷ 50 ∷ 10 ∷ 48 ∷ 32 ∷ 49 ∷ [])
    ≡ bad (record { number = 15; place = 5 }))
unfolding count every any first_where total flatten groups number_bytes read_groups read_number read_within ascending rows_at member first_bad names first_naming read_nodes read_list read_dark check_length check_end check_ascending check_service read_seven read_start read_order check_bare_rows read_bare lines_of before begins read_numbers head_taken add_table add_out add_block draft_bytes line_at word_of order_taken add_order add_numbers add_content add_line read_lines read_text rows_draft rows_of
faults = (refl, refl, refl, refl, refl, refl, refl, refl, refl, refl, refl)
