-- Bare rows as text become a file of bare rows. Assumes nothing.
use Rattle.std.specs.Prelude.{ℕ, ◌-◌, ◌/◌, List, length, get_or, ltb, Result, Ok, Err}
use Rattle.refusal.specs.Refusals.{number_of, place_of}
use Rattle.refusal.specs.Checked.{Checked, accepted, refused}
use Rattle.layers.specs.Layers.{Located}
use Rattle.certify.specs.Bare.{Bare, read_bare}
use Rattle.table.specs.Told.{Told, good, bad, ◌>>=◌, unless, too_long}
use Rattle.table.specs.Reading.{Draft, draft_bytes, line_at, text_most, or_fault_line}
use Rattle.rows_text.specs.Reading.{read_text}
use Rattle.table.specs.declared.Fault.{Fault}

-- the bare rows as their check says: what it refuses (15) is told with the line of its row
abbrev pub rows_if : Draft → Checked (Located Bare) → Told (List ℕ)
rows_if d (accepted file) = good (draft_bytes d)
rows_if d (refused e) = bad (record { number = number_of e; place = line_at d (place_of e) })

unfoldable pub rows_draft : Draft → Told (List ℕ)
rows_draft d = rows_if d (read_bare (draft_bytes d))

-- "turns a text into a file of bare rows"
unfoldable pub rows_of : (text : List ℕ) → Told (List ℕ)
rows_of text = do
  d ← read_text text
  rows_draft d

-- a text that is longer than the program holds is refused
unfoldable pub rows_input : (input : List ℕ) → Told (List ℕ)
rows_input input = do
  _ ← unless (ltb (length input) text_most) (too_long text_most)
  rows_of input

-- what the program `rows` writes
unfoldable pub rows_reply : (input : List ℕ) → List ℕ
rows_reply input = or_fault_line (rows_input input)

-- what the check of the bytes says, where `lines` has the lines of the rows and these begin at `first`
abbrev pub made_as : Checked (Located Bare) → (size : ℕ) (lines : List ℕ) (first r : ℕ) → Result ℕ Fault
made_as (accepted file) size lines first r = Ok size
made_as (refused e) size lines first r =
    Err (record { number = number_of e; place = get_or lines ((place_of e - first) / r) 0 })
