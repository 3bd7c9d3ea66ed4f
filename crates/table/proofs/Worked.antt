-- Small tables by hand, by computation. Assumes nothing.
use mathlib.Core.Path.{◌≡◌, refl}
use mathlib.Core.List.{[], ◌∷◌, flatten}
use Rattle.lists.specs.Lists.{count, every, any, first_where, total}
use Rattle.number.specs.Numbers.{groups, number_bytes, read_groups, read_number, read_within}
use Rattle.packing.specs.Rows.{ascending, rows_at, member, holds, together, subsets, crowded, first_crowded, first_bad}
use Rattle.layers.specs.Layers.{names, first_naming, read_kind, read_nodes, read_list, read_dark, read_layers, layers_at, first_crowded_of, read_base, check_length, check_end, check_ascending, check_service, check_packings, check_rows}
use Rattle.pack.specs.Pack.{read_pack}
use Rattle.table.specs.Told.{good, bad}
use Rattle.table.specs.Lines.{lines_of, before, begins, word_of, read_numbers}
use Rattle.table.specs.Reading.{head_taken, add_table, add_out, add_layer, add_block, add_numbers, add_content, add_line, read_lines, read_text, draft_bytes, line_at, pack_draft, pack_of}

-- a table of two layers, with a comment, a blank line and no newline at its end; the same with node 1 out of service
pub packed : (pack_of (116 ∷ 97 ∷ 98 ∷ 108 ∷ 101 ∷ 32 ∷ 51 ∷ 32 ∷ 50 ∷ 10 ∷ 109 ∷ 117 ∷ 32 ∷ 49 ∷ 32 ∷ 35 ∷ 32 ∷ 120 ∷ 61 ∷ 48 ∷ 10 ∷ 10 ∷ 48 ∷ 32 ∷ 50 ∷ 10 ∷ 109 ∷ 117 ∷ 32 ∷ 50 ∷ [])
    ≡ good (4 ∷ 3 ∷ 2 ∷ 0 ∷ 1 ∷ 1 ∷ 2 ∷ 0 ∷ 0 ∷ 2 ∷ []))
    × (pack_of (116 ∷ 97 ∷ 98 ∷ 108 ∷ 101 ∷ 32 ∷ 51 ∷ 32 ∷ 50 ∷ 10 ∷ 111 ∷ 117 ∷ 116 ∷ 32 ∷ 49 ∷ 10 ∷ 109 ∷ 117 ∷ 32 ∷ 49 ∷ 10 ∷ 48 ∷ 32 ∷ 50 ∷ 10 ∷ 109 ∷ 117 ∷ 32 ∷ 50 ∷ [])
    ≡ good (4 ∷ 3 ∷ 2 ∷ 1 ∷ 1 ∷ 1 ∷ 1 ∷ 2 ∷ 0 ∷ 0 ∷ 2 ∷ []))
unfolding count every any first_where total flatten groups number_bytes read_groups read_number read_within ascending rows_at member holds together subsets crowded first_crowded first_bad names first_naming read_kind read_nodes read_list read_dark read_layers layers_at first_crowded_of read_base check_length check_end check_ascending check_service check_packings check_rows read_pack lines_of before begins word_of read_numbers head_taken add_table add_out add_layer add_block add_numbers add_content add_line read_lines read_text draft_bytes line_at pack_draft pack_of
packed = (refl, refl)

-- a block before the first layer; a word that is no number; a mu above 4,096; r above n; a block that does not ascend; no second layer; a block that names node 1, which is out of service; node 0 in two blocks of layer 0, whose mu is 1
pub faults : (pack_of (116 ∷ 97 ∷ 98 ∷ 108 ∷ 101 ∷ 32 ∷ 51 ∷ 32 ∷ 50 ∷ 10 ∷ 48 ∷ 32 ∷ 49 ∷ [])
    ≡ bad (record { number = 23; place = 2 }))
    × (pack_of (116 ∷ 97 ∷ 98 ∷ 108 ∷ 101 ∷ 32 ∷ 51 ∷ 32 ∷ 98 ∷ [])
    ≡ bad (record { number = 23; place = 1 }))
    × (pack_of (116 ∷ 97 ∷ 98 ∷ 108 ∷ 101 ∷ 32 ∷ 51 ∷ 32 ∷ 50 ∷ 10 ∷ 109 ∷ 117 ∷ 32 ∷ 52 ∷ 48 ∷ 57 ∷ 55 ∷ [])
    ≡ bad (record { number = 4; place = 2 }))
    × (pack_of (116 ∷ 97 ∷ 98 ∷ 108 ∷ 101 ∷ 32 ∷ 50 ∷ 32 ∷ 51 ∷ [])
    ≡ bad (record { number = 4; place = 1 }))
    × (pack_of (116 ∷ 97 ∷ 98 ∷ 108 ∷ 101 ∷ 32 ∷ 51 ∷ 32 ∷ 50 ∷ 10 ∷ 109 ∷ 117 ∷ 32 ∷ 49 ∷ 10 ∷ 50 ∷ 32 ∷ 48 ∷ [])
    ≡ bad (record { number = 6; place = 3 }))
    × (pack_of (116 ∷ 97 ∷ 98 ∷ 108 ∷ 101 ∷ 32 ∷ 51 ∷ 32 ∷ 50 ∷ 10 ∷ 109 ∷ 117 ∷ 32 ∷ 49 ∷ 10 ∷ [])
    ≡ bad (record { number = 1; place = 3 }))
    × (pack_of (116 ∷ 97 ∷ 98 ∷ 108 ∷ 101 ∷ 32 ∷ 51 ∷ 32 ∷ 50 ∷ 10 ∷ 111 ∷ 117 ∷ 116 ∷ 32 ∷ 49 ∷ 10 ∷ 109 ∷ 117 ∷ 32 ∷ 49 ∷ 10 ∷ 48 ∷ 32 ∷ 49 ∷ 10 ∷ 109 ∷ 117 ∷ 32 ∷ 49 ∷ [])
    ≡ bad (record { number = 15; place = 4 }))
    × (pack_of (116 ∷ 97 ∷ 98 ∷ 108 ∷ 101 ∷ 32 ∷ 51 ∷ 32 ∷ 50 ∷ 10 ∷ 109 ∷ 117 ∷ 32 ∷ 49 ∷ 10 ∷ 48 ∷ 32 ∷ 49 ∷ 10 ∷ 48 ∷ 32 ∷ 50 ∷ 10 ∷ 109 ∷ 117 ∷ 32 ∷ 49 ∷ [])
    ≡ bad (record { number = 7; place = 3 }))
unfolding count every any first_where total flatten groups number_bytes read_groups read_number read_within ascending rows_at member holds together subsets crowded first_crowded first_bad names first_naming read_kind read_nodes read_list read_dark read_layers layers_at first_crowded_of read_base check_length check_end check_ascending check_service check_packings check_rows read_pack lines_of before begins word_of read_numbers head_taken add_table add_out add_layer add_block add_numbers add_content add_line read_lines read_text draft_bytes line_at pack_draft pack_of
faults = (refl, refl, refl, refl, refl, refl, refl, refl)
