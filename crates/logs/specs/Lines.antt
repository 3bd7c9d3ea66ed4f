-- A line of an outage log: "a log file is lines `time node down|up` in text". Comments and blanks are those of a block table.
-- Assumes nothing.
use Rattle.std.specs.Prelude.{ℕ, suc, ◌+◌, ◌*◌, ◌-◌, Bool, true, false, cond, not, ◌&&◌, List, [], ◌∷◌, take, drop, leb, ltb, eqb, Option, Some, None}
use Rattle.table.specs.Lines.{uncommented, is_digit, is_blank}
use Rattle.logs.specs.declared.State.{State}
use Rattle.logs.specs.declared.State.TheVariants.{Down, Up, Other as Neither}
use Rattle.logs.specs.declared.LogLine.{LogLine}
use Rattle.logs.specs.declared.LogLine.TheVariants.{Happens, Nothing, Unreadable}

-- how many bytes that pass a test the bytes begin with
unfoldable pub leading : (test : ℕ → Bool) → List ℕ → ℕ
leading test [] = 0
leading test (byte ∷ bytes) = cond (test byte) (suc (leading test bytes)) 0

abbrev pub no_blank : ℕ → Bool
no_blank byte = not (is_blank byte)

-- how many blanks the bytes begin with
abbrev pub blanks : List ℕ → ℕ
blanks bytes = leading is_blank bytes

-- how many bytes stand before the first blank
abbrev pub solid : List ℕ → ℕ
solid bytes = leading no_blank bytes

-- from the first word on
abbrev pub trimmed : List ℕ → List ℕ
trimmed bytes = drop (blanks bytes) bytes

-- the word that the bytes begin with
abbrev pub word_of : List ℕ → List ℕ
word_of bytes = take (solid bytes) bytes

-- from the word after it on
abbrev pub after_word : List ℕ → List ℕ
after_word bytes = trimmed (drop (solid bytes) bytes)

-- decimal digits, after some that make `value`: "times are 32-bit seconds", so none where the number passes 4,294,967,295
unfoldable pub digits_from : (value : ℕ) → List ℕ → Option ℕ
digits_from value [] = Some value
digits_from value (byte ∷ word) =
    let next = value * 10 + (byte - 48) in
    cond (is_digit byte && leb next 4_294_967_295) (digits_from next word) None

-- a word as a number: at least one digit
unfoldable pub number_of : List ℕ → Option ℕ
number_of [] = None
number_of (byte ∷ word) = digits_from 0 (byte ∷ word)

-- the same bytes
unfoldable pub same_bytes : (a b : List ℕ) → Bool
same_bytes [] [] = true
same_bytes [] (y ∷ b) = false
same_bytes (x ∷ a) [] = false
same_bytes (x ∷ a) (y ∷ b) = eqb x y && same_bytes a b

-- `down`, `up`
abbrev pub down_word : List ℕ
down_word = 100 ∷ 111 ∷ 119 ∷ 110 ∷ []

abbrev pub up_word : List ℕ
up_word = 117 ∷ 112 ∷ []

unfoldable pub state_of : List ℕ → State
state_of word = cond (same_bytes word down_word) Down (cond (same_bytes word up_word) Up Neither)

-- a node's number as an event has it, a byte: numbers from 255 on, which are of no node of any placement, are all 255
abbrev pub node_of : ℕ → ℕ
node_of v = cond (ltb v 255) v 255

abbrev pub event_of : (time node : ℕ) (down : Bool) → LogLine
event_of time node down = Happens (record { time = time; node = record { 0 = node_of node }; down = down })

-- "each a time, a node and down or up": a line with another word in one of the three places can't be read
abbrev pub with_state : (time node : ℕ) → State → LogLine
with_state time node Down = event_of time node true
with_state time node Up = event_of time node false
with_state time node Neither = Unreadable

abbrev pub with_node : (time : ℕ) → Option ℕ → State → LogLine
with_node time (Some node) state = with_state time node state
with_node time None state = Unreadable

abbrev pub with_time : Option ℕ → Option ℕ → State → LogLine
with_time (Some time) read state = with_node time read state
with_time None read state = Unreadable

-- what the third word leaves of the line: nothing, else it can't be read
abbrev pub at_end : List ℕ → LogLine → LogLine
at_end [] line = line
at_end (byte ∷ bytes) line = Unreadable

-- the last of three words, and no other after it
unfoldable pub last_word : (time node : Option ℕ) → List ℕ → LogLine
last_word time node third = at_end (after_word third) (with_time time node (state_of (word_of third)))

unfoldable pub two_words : (time : Option ℕ) → List ℕ → LogLine
two_words time second = last_word time (number_of (word_of second)) (after_word second)

-- three words, "`time node down|up`"
unfoldable pub three_words : List ℕ → LogLine
three_words first = two_words (number_of (word_of first)) (after_word first)

-- a line without its comment; one without a word is skipped
abbrev pub words_line : List ℕ → LogLine
words_line [] = Nothing
words_line (byte ∷ bytes) = three_words (byte ∷ bytes)

unfoldable pub content_line : List ℕ → LogLine
content_line content = words_line (trimmed content)

-- a line of the text
unfoldable pub line_of : List ℕ → LogLine
line_of line = content_line (uncommented line)
