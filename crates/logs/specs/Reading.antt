-- An outage log as text becomes a list of events. Assumes nothing.
use Rattle.std.specs.Prelude.{ℕ, suc, ◌≤◌, ◌≡◌, cond, List, [], ◌∷◌, ◌++◌, length, take, ltb, Ok, Err}
use Rattle.table.specs.Lines.{lines_of}
use Rattle.replay.specs.declared.Event.{Event}
use Rattle.text.specs.declared.TextRefusal.{TextRefusal}
use Rattle.text.specs.declared.TextRefusal.TheVariants.{Unreadable as UnreadableLine, TooLong}
use Rattle.logs.specs.declared.LogLine.{LogLine}
use Rattle.logs.specs.declared.LogLine.TheVariants.{Happens, Nothing, Unreadable}
use Rattle.logs.specs.declared.Log.{Log}
use Rattle.logs.specs.Lines.{line_of}

-- the events of a text, or the first refusal that is met
pub data LogRead : Type 0 where
  events : List Event → LogRead
  unread : TextRefusal → LogRead

-- `do log ← m; f log`: what follows only where m is read
infixl 10 ◌>>=◌
abbrev pub ◌>>=◌ : LogRead → (List Event → LogRead) → LogRead
events log >>= f = f log
unread e >>= f = unread e

-- "A log .. longer than a program holds is a numbered refusal": so many events are held
abbrev pub events_most : ℕ
events_most = 2_048

-- a line after the events so far: "a numbered refusal and the line as place for text that can't be read"
unfoldable pub add_line : (line : ℕ) → LogLine → List Event → LogRead
add_line line (Happens e) log = cond (ltb (length log) events_most) (events (log ++ (e ∷ []))) (unread (TooLong events_most))
add_line line Nothing log = events log
add_line line Unreadable log = unread (UnreadableLine line)

-- the lines from this one on, after the events so far
unfoldable pub read_lines : (line : ℕ) → List (List ℕ) → List Event → LogRead
read_lines line [] log = events log
read_lines line (bytes ∷ others) log = do
  log' ← add_line line (line_of bytes) log
  read_lines (suc line) others log'

-- lines are numbered from 1
unfoldable pub read_text : List ℕ → LogRead
read_text text = read_lines 1 (lines_of text) []

-- a text of so many bytes is longer than the program holds
abbrev pub text_most : ℕ
text_most = 131_072

unfoldable pub read_log : (text : List ℕ) → LogRead
read_log text = cond (ltb (length text) text_most) (read_text text) (unread (TooLong text_most))

-- the events at the start of the array, as the code answers them
pub record Held (log : List Event) (read : Log) : Type 0 where
  pub whole : read.end ≡ Ok tt
  pub most : read.count ≤ events_most
  pub are : take read.count read.events ≡ log

abbrev pub LogIn : LogRead → Log → Type 0
LogIn (events log) read = Held log read
LogIn (unread e) read = read.end ≡ Err e
