-- The programs' replies in lent slices of any length. Assumes nothing.
use Rattle.std.specs.Prelude.{ℕ, ◌≤◌, ◌≡◌, List, length, leb}
use Rattle.lists.specs.Lists.{over_start}
use Rattle.refusal.specs.declared.Refusal.TheVariants.{ShortOutput}
use Rattle.refusal.specs.Checked.{Checked, accepted, ◌>>=◌, require}
use Rattle.report.specs.Programs.{check_line}

-- the bytes that `check` asks for, whatever the input: every line is shorter
abbrev pub line_needed : ℕ
line_needed = 200

-- what `check` writes into a slice of `output` bytes; "output too short": refusal 11 with the "bytes needed"
unfoldable pub check_into : (input : List ℕ) (output : ℕ) → Checked (List ℕ)
check_into input output = do
  _ ← require (leb line_needed output) (ShortOutput line_needed)
  accepted (check_line input)

-- A reply in a slice that is long enough, as the inner functions answer it: it stands at the slice's start, its length is the
-- answer, and "bytes .. past the written length don't change".
pub record Replied (reply : List ℕ) (answer : ℕ) (before after : List ℕ) : Type 0 where
  pub answered : answer ≡ length reply
  pub inside : answer ≤ length after
  pub written : after ≡ over_start reply before
