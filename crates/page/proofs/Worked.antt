-- The page of document 01's nine records on seven cabinets, character by character, and a line with numbers of up to four digits.
-- Assumes nothing.
use Prim.Native.Nat.{ℕ}
use mathlib.Core.Path.{◌≡◌, refl}
use mathlib.Core.List.{List, [], ◌∷◌, flatten}
use Rattle.lists.specs.Lists.{up_to}
use Rattle.refusal.specs.declared.Refusal.TheVariants.{ShortOutput}
use Rattle.refusal.specs.Checked.{accepted, refused}
use Rattle.report.specs.Programs.{digits, decimal}
use Rattle.placement.specs.SevenCabinets.{placement_file, seven_placement}
use Rattle.placement.proofs.Worked.{placements}
use Rattle.page.specs.Field.{field}
use Rattle.page.specs.Page.{node_field, record_line, last_line, layer_of, page_of, check_page}

-- each line's text stands above its characters
abbrev seven_lines : List (List ℕ)
seven_lines =
    -- `   0 0   0   1   2        `
    (32 ∷ 32 ∷ 32 ∷ 48 ∷ 32 ∷ 48 ∷ 32 ∷ 32 ∷ 32 ∷ 48 ∷ 32 ∷ 32 ∷ 32 ∷ 49 ∷ 32 ∷ 32 ∷ 32 ∷ 50 ∷ 32 ∷ 32 ∷ 32 ∷ 32 ∷ 32 ∷ 32 ∷ 32 ∷ 32 ∷ 10 ∷ [])
    -- `   1 0   3   4   5        `
    ∷ (32 ∷ 32 ∷ 32 ∷ 49 ∷ 32 ∷ 48 ∷ 32 ∷ 32 ∷ 32 ∷ 51 ∷ 32 ∷ 32 ∷ 32 ∷ 52 ∷ 32 ∷ 32 ∷ 32 ∷ 53 ∷ 32 ∷ 32 ∷ 32 ∷ 32 ∷ 32 ∷ 32 ∷ 32 ∷ 32 ∷ 10 ∷ [])
    -- `   2 1   0   1   2        `
    ∷ (32 ∷ 32 ∷ 32 ∷ 50 ∷ 32 ∷ 49 ∷ 32 ∷ 32 ∷ 32 ∷ 48 ∷ 32 ∷ 32 ∷ 32 ∷ 49 ∷ 32 ∷ 32 ∷ 32 ∷ 50 ∷ 32 ∷ 32 ∷ 32 ∷ 32 ∷ 32 ∷ 32 ∷ 32 ∷ 32 ∷ 10 ∷ [])
    -- `   3 1   0   3   4        `
    ∷ (32 ∷ 32 ∷ 32 ∷ 51 ∷ 32 ∷ 49 ∷ 32 ∷ 32 ∷ 32 ∷ 48 ∷ 32 ∷ 32 ∷ 32 ∷ 51 ∷ 32 ∷ 32 ∷ 32 ∷ 52 ∷ 32 ∷ 32 ∷ 32 ∷ 32 ∷ 32 ∷ 32 ∷ 32 ∷ 32 ∷ 10 ∷ [])
    -- `   4 1   0   5   6        `
    ∷ (32 ∷ 32 ∷ 32 ∷ 52 ∷ 32 ∷ 49 ∷ 32 ∷ 32 ∷ 32 ∷ 48 ∷ 32 ∷ 32 ∷ 32 ∷ 53 ∷ 32 ∷ 32 ∷ 32 ∷ 54 ∷ 32 ∷ 32 ∷ 32 ∷ 32 ∷ 32 ∷ 32 ∷ 32 ∷ 32 ∷ 10 ∷ [])
    -- `   5 1   1   3   5        `
    ∷ (32 ∷ 32 ∷ 32 ∷ 53 ∷ 32 ∷ 49 ∷ 32 ∷ 32 ∷ 32 ∷ 49 ∷ 32 ∷ 32 ∷ 32 ∷ 51 ∷ 32 ∷ 32 ∷ 32 ∷ 53 ∷ 32 ∷ 32 ∷ 32 ∷ 32 ∷ 32 ∷ 32 ∷ 32 ∷ 32 ∷ 10 ∷ [])
    -- `   6 1   1   4   6        `
    ∷ (32 ∷ 32 ∷ 32 ∷ 54 ∷ 32 ∷ 49 ∷ 32 ∷ 32 ∷ 32 ∷ 49 ∷ 32 ∷ 32 ∷ 32 ∷ 52 ∷ 32 ∷ 32 ∷ 32 ∷ 54 ∷ 32 ∷ 32 ∷ 32 ∷ 32 ∷ 32 ∷ 32 ∷ 32 ∷ 32 ∷ 10 ∷ [])
    -- `   7 1   2   3   6        `
    ∷ (32 ∷ 32 ∷ 32 ∷ 55 ∷ 32 ∷ 49 ∷ 32 ∷ 32 ∷ 32 ∷ 50 ∷ 32 ∷ 32 ∷ 32 ∷ 51 ∷ 32 ∷ 32 ∷ 32 ∷ 54 ∷ 32 ∷ 32 ∷ 32 ∷ 32 ∷ 32 ∷ 32 ∷ 32 ∷ 32 ∷ 10 ∷ [])
    -- `   8 1   2   4   5        `
    ∷ (32 ∷ 32 ∷ 32 ∷ 56 ∷ 32 ∷ 49 ∷ 32 ∷ 32 ∷ 32 ∷ 50 ∷ 32 ∷ 32 ∷ 32 ∷ 52 ∷ 32 ∷ 32 ∷ 32 ∷ 53 ∷ 32 ∷ 32 ∷ 32 ∷ 32 ∷ 32 ∷ 32 ∷ 32 ∷ 32 ∷ 10 ∷ [])
    -- `kept    5 of    9         `
    ∷ (107 ∷ 101 ∷ 112 ∷ 116 ∷ 32 ∷ 32 ∷ 32 ∷ 32 ∷ 53 ∷ 32 ∷ 111 ∷ 102 ∷ 32 ∷ 32 ∷ 32 ∷ 32 ∷ 57 ∷ 32 ∷ 32 ∷ 32 ∷ 32 ∷ 32 ∷ 32 ∷ 32 ∷ 32 ∷ 32 ∷ 10 ∷ [])
    ∷ []

pub seven-page : (check_page (placement_file 2 5) 270 ≡ accepted (flatten seven_lines)) × (check_page (placement_file 2 5) 269 ≡ refused (ShortOutput 270))
unfolding up_to flatten digits decimal field node_field record_line last_line layer_of page_of check_page seven_placement
seven-page = (rw placements.1 refl, rw placements.1 refl)

-- `4095 4   0   9  10  99 254`
pub wide-line : record_line 4_095 4 (0 ∷ 9 ∷ 10 ∷ 99 ∷ 254 ∷ [])
    ≡ 52 ∷ 48 ∷ 57 ∷ 53 ∷ 32 ∷ 52 ∷ 32 ∷ 32 ∷ 32 ∷ 48 ∷ 32 ∷ 32 ∷ 32 ∷ 57 ∷ 32 ∷ 32 ∷ 49 ∷ 48 ∷ 32 ∷ 32 ∷ 57 ∷ 57 ∷ 32 ∷ 50 ∷ 53 ∷ 52 ∷ 10 ∷ []
unfolding up_to flatten digits decimal field node_field record_line
wide-line = refl
