-- Replies by hand, by computation: lines, numbers that can't be read, and document 01's placement of nine records. Assumes nothing.
use mathlib.Core.Path.{◌≡◌, refl, ◌∙◌, ap}
use mathlib.Core.List.{[], ◌∷◌, ◌++◌, flatten}
use Rattle.refusal.specs.declared.Refusal.TheVariants.{ShortOutput}
use Rattle.refusal.specs.Checked.{accepted, refused}
use Rattle.number.specs.Numbers.{read_groups, read_number}
use Rattle.packing.specs.SevenCabinets.{row245}
use Rattle.pack.specs.SevenCabinets.{pack_bytes}
use Rattle.placement.specs.SevenCabinets.{listed_file}
use Rattle.planner.proofs.Worked.{orders}
use Rattle.report.specs.Programs.{digits, decimal, rest, refused_word}
use Rattle.text.specs.declared.TextRefusal.TheVariants.{Arguments, Unreadable, TooLong}
use Rattle.text.specs.Decimal.{read_digits, read_decimal}
use Rattle.text.specs.Numbers.{take_numbers, given}
use Rattle.replies.specs.Programs.{read_order, plan_input, planned_reply, plan_reply}
use Rattle.replies.specs.Lines.{numbers_line, figure_lines, text_line}
use Rattle.replies.specs.Replying.{with_numbers, into}
use Rattle.replies.specs.Plans.{plan_program}

-- `5 0 13`; `2 7` and `3 5`; `refused 22 3`, `refused 23 1`, `refused 24 9`
pub lines : (numbers_line 5 (0 ∷ 13 ∷ []) ≡ 53 ∷ 32 ∷ 48 ∷ 32 ∷ 49 ∷ 51 ∷ 10 ∷ [])
    × (figure_lines 2 (7 ∷ 5 ∷ []) ≡ 50 ∷ 32 ∷ 55 ∷ 10 ∷ 51 ∷ 32 ∷ 53 ∷ 10 ∷ [])
    × (text_line (Arguments 3) ≡ refused_word ++ (32 ∷ 50 ∷ 50 ∷ 32 ∷ 51 ∷ 10 ∷ []))
    × (text_line (Unreadable 1) ≡ refused_word ++ (32 ∷ 50 ∷ 51 ∷ 32 ∷ 49 ∷ 10 ∷ []))
    × (text_line (TooLong 9) ≡ refused_word ++ (32 ∷ 50 ∷ 52 ∷ 32 ∷ 57 ∷ 10 ∷ []))
unfolding digits decimal rest figure_lines
lines = (refl, refl, refl, refl, refl)

-- `plan` with the numbers 2 3 9 and then P writes the whole file, by request (h) of kind 5
pub nine : plan_reply (2 ∷ 3 ∷ 9 ∷ pack_bytes row245) ≡ listed_file (0 ∷ []) 5
unfolding flatten read_groups read_number pack_bytes read_order plan_input planned_reply plan_reply
nine = ap planned_reply orders.6 ∙ orders.7

-- `plan 2`: `refused 12 1`; four arguments to `plan`: `refused 22 3`
pub unread : (plan_program (50 ∷ 0 ∷ []) [] ≡ refused_word ++ (32 ∷ 49 ∷ 50 ∷ 32 ∷ 49 ∷ 10 ∷ []))
    × (plan_program (50 ∷ 0 ∷ 51 ∷ 0 ∷ 57 ∷ 0 ∷ 57 ∷ 0 ∷ []) [] ≡ refused_word ++ (32 ∷ 50 ∷ 50 ∷ 32 ∷ 51 ∷ 10 ∷ []))
unfolding digits decimal rest read_digits read_decimal take_numbers given with_numbers
unread = (refl, refl)

-- a slice a byte short
pub slices : (into 200 [] 199 ≡ refused (ShortOutput 200)) × (into 200 [] 200 ≡ accepted [])
unfolding into
slices = (refl, refl)
