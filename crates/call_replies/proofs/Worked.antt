-- Replies by hand, by computation: numbers that can't be read. Assumes nothing.
use mathlib.Core.Path.{◌≡◌, refl}
use mathlib.Core.List.{[], ◌∷◌, ◌++◌}
use Rattle.refusal.specs.declared.Refusal.TheVariants.{BadOrder, BadCounts, BadWish}
use Rattle.number.specs.Numbers.{read_groups, read_number}
use Rattle.report.specs.Programs.{digits, decimal, rest, refused_word}
use Rattle.text.specs.Decimal.{read_digits, read_decimal}
use Rattle.text.specs.Numbers.{take_numbers, given}
use Rattle.replies.specs.Replying.{with_numbers}
use Rattle.call_replies.specs.Rounds.{rounds_reply}
use Rattle.call_replies.specs.Curve.{curve_reply}
use Rattle.call_replies.specs.Page.{page_reply}
use Rattle.call_replies.specs.Committing.{commit_bad, commit_reply}
use Rattle.call_replies.specs.Operators.{operator_bad, operator_reply}
use Rattle.call_replies.specs.Join.{join_reply}

-- a q that can't be read: `refused 18 0`; an argument to `curve` or `page`: `refused 22 0`; no count: `refused 16 0`; no wish:
-- `refused 14 0`; four files: `refused 22 3`
pub unread : (rounds_reply (120 ∷ 0 ∷ []) [] ≡ refused_word ++ (32 ∷ 49 ∷ 56 ∷ 32 ∷ 48 ∷ 10 ∷ []))
    × (curve_reply (50 ∷ 0 ∷ []) [] ≡ refused_word ++ (32 ∷ 50 ∷ 50 ∷ 32 ∷ 48 ∷ 10 ∷ []))
    × (page_reply (50 ∷ 0 ∷ []) [] ≡ refused_word ++ (32 ∷ 50 ∷ 50 ∷ 32 ∷ 48 ∷ 10 ∷ []))
    × (commit_reply [] (2 ∷ 3 ∷ 9 ∷ []) ≡ refused_word ++ (32 ∷ 49 ∷ 54 ∷ 32 ∷ 48 ∷ 10 ∷ []))
    × (operator_reply [] (2 ∷ 3 ∷ 9 ∷ []) ≡ refused_word ++ (32 ∷ 49 ∷ 52 ∷ 32 ∷ 48 ∷ 10 ∷ []))
    × (join_reply 4 [] [] [] 0 ≡ refused_word ++ (32 ∷ 50 ∷ 50 ∷ 32 ∷ 51 ∷ 10 ∷ []))
unfolding read_groups read_number digits decimal rest read_digits read_decimal take_numbers given with_numbers join_reply
unread = (refl, refl, refl, refl, refl, refl)

-- which number can't be read: s, k and b are 12, the counts 16, the wishes 14
pub indices : (commit_bad 2 ≡ BadOrder 2) × (commit_bad 3 ≡ BadCounts) × (operator_bad 1 ≡ BadOrder 1) × (operator_bad 2 ≡ BadWish)
indices = (refl, refl, refl, refl)
