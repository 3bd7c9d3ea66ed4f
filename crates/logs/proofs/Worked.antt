-- Small logs by hand, by computation. Assumes nothing.
use mathlib.Core.Path.{◌≡◌, refl}
use mathlib.Core.Bool.{true, false}
use mathlib.Core.List.{[], ◌∷◌, ◌++◌}
use Rattle.number.specs.Numbers.{read_groups, read_number}
use Rattle.layers.specs.Layers.{read_kind, read_base}
use Rattle.placement.specs.Placement.{read_placement, check_placement}
use Rattle.report.specs.Programs.{digits, decimal, rest, refused_word}
use Rattle.text.specs.declared.TextRefusal.TheVariants.{Unreadable}
use Rattle.table.specs.Lines.{lines_of, before}
use Rattle.replay.specs.declared.Replayed.TheVariants.{Lowest, Quiet}
use Rattle.logs.specs.Lines.{leading, digits_from, number_of, same_bytes, state_of, last_word, two_words, three_words, content_line, line_of}
use Rattle.logs.specs.Reading.{events, unread, add_line, read_lines, read_text, read_log}
use Rattle.logs.specs.Replying.{answer_line, replay_text, replay_reply}

-- `7 0 down`, an empty line, and `8 300 up` with a tab and a comment; a comment and blanks alone; the largest time, a zero in front
pub logs : (read_text (55 ∷ 32 ∷ 48 ∷ 32 ∷ 100 ∷ 111 ∷ 119 ∷ 110 ∷ 10 ∷ 10 ∷ 56 ∷ 9 ∷ 51 ∷ 48 ∷ 48 ∷ 32 ∷ 117 ∷ 112 ∷ 32 ∷ 35 ∷ 32 ∷ 120 ∷ [])
    ≡ events (record { time = 7; node = record { 0 = 0 }; down = true } ∷ record { time = 8; node = record { 0 = 255 }; down = false } ∷ []))
    × (read_text (35 ∷ 32 ∷ 111 ∷ 110 ∷ 108 ∷ 121 ∷ 10 ∷ 32 ∷ 13 ∷ [])
    ≡ events ([]))
    × (read_text (48 ∷ 52 ∷ 50 ∷ 57 ∷ 52 ∷ 57 ∷ 54 ∷ 55 ∷ 50 ∷ 57 ∷ 53 ∷ 32 ∷ 50 ∷ 53 ∷ 52 ∷ 32 ∷ 117 ∷ 112 ∷ [])
    ≡ events (record { time = 4294967295; node = record { 0 = 254 }; down = false } ∷ []))
unfolding lines_of before leading digits_from number_of same_bytes state_of last_word two_words three_words content_line line_of add_line read_lines read_text
logs = (refl, refl, refl)

-- `7 0`; a fourth word in line 2; `Down`; a time of more than 32 bits; no blank before `down`; a sign
pub faults : (read_text (55 ∷ 32 ∷ 48 ∷ []) ≡ unread (Unreadable 1))
    × (read_text (55 ∷ 32 ∷ 48 ∷ 32 ∷ 100 ∷ 111 ∷ 119 ∷ 110 ∷ 10 ∷ 55 ∷ 32 ∷ 49 ∷ 32 ∷ 100 ∷ 111 ∷ 119 ∷ 110 ∷ 32 ∷ 49 ∷ []) ≡ unread (Unreadable 2))
    × (read_text (55 ∷ 32 ∷ 48 ∷ 32 ∷ 68 ∷ 111 ∷ 119 ∷ 110 ∷ []) ≡ unread (Unreadable 1))
    × (read_text (52 ∷ 50 ∷ 57 ∷ 52 ∷ 57 ∷ 54 ∷ 55 ∷ 50 ∷ 57 ∷ 54 ∷ 32 ∷ 48 ∷ 32 ∷ 117 ∷ 112 ∷ []) ≡ unread (Unreadable 1))
    × (read_text (55 ∷ 32 ∷ 48 ∷ 100 ∷ 111 ∷ 119 ∷ 110 ∷ []) ≡ unread (Unreadable 1))
    × (read_text (45 ∷ 55 ∷ 32 ∷ 48 ∷ 32 ∷ 117 ∷ 112 ∷ []) ≡ unread (Unreadable 1))
unfolding lines_of before leading digits_from number_of same_bytes state_of last_word two_words three_words content_line line_of add_line read_lines read_text
faults = (refl, refl, refl, refl, refl, refl)

-- `5 2`; of an empty log `9`; no log is named, or two: `refused 22 1`
pub lines : (answer_line (Lowest 5 2) ≡ 53 ∷ 32 ∷ 50 ∷ 10 ∷ [])
    × (answer_line (Quiet 9) ≡ 57 ∷ 10 ∷ [])
    × (replay_reply 0 [] [] ≡ refused_word ++ (32 ∷ 50 ∷ 50 ∷ 32 ∷ 49 ∷ 10 ∷ []))
    × (replay_reply 2 [] [] ≡ refused_word ++ (32 ∷ 50 ∷ 50 ∷ 32 ∷ 49 ∷ 10 ∷ []))
unfolding digits decimal rest replay_reply
lines = (refl, refl, refl, refl)

-- an empty placement and a log that can't be read: the placement's refusal comes first, `refused 1 0`
pub placement-first : replay_reply 1 (120 ∷ []) [] ≡ refused_word ++ (32 ∷ 49 ∷ 32 ∷ 48 ∷ 10 ∷ [])
unfolding digits decimal rest read_groups read_number read_kind read_base read_placement check_placement lines_of before leading digits_from number_of same_bytes state_of last_word two_words three_words content_line line_of add_line read_lines read_text read_log replay_text replay_reply
placement-first = refl
