-- How a program answers: its numbers first, then its file. Assumes nothing.
use Rattle.std.specs.Prelude.{ℕ, List, drop, leb}
use Rattle.refusal.specs.declared.Refusal.{Refusal}
use Rattle.refusal.specs.declared.Refusal.TheVariants.{ShortOutput}
use Rattle.refusal.specs.Checked.{Checked, accepted, ◌>>=◌, require}
use Rattle.report.specs.Programs.{refused_line}
use Rattle.text.specs.declared.TextRefusal.TheVariants.{Arguments}
use Rattle.text.specs.declared.GivenEnd.{GivenEnd}
use Rattle.text.specs.declared.GivenEnd.TheVariants.{File, Unread, Extra}
use Rattle.text.specs.Numbers.{given}
use Rattle.replies.specs.Lines.{text_line}

-- What a program of `count` numbers prints: for the first number that can't be read the refusal that it has for it, whatever
-- follows; then 22 for an argument that is left; then its reply to the numbers and the file.
module _ (count : ℕ) (bad : ℕ → Refusal) (reply : (numbers file : List ℕ) → List ℕ) where
  abbrev pub reply_after : (input numbers : List ℕ) → GivenEnd → List ℕ
  reply_after input numbers (File place) = reply numbers (drop place input)
  reply_after input numbers (Unread i) = refused_line (bad i)
  reply_after input numbers Extra = text_line (Arguments count)

  unfoldable pub with_numbers : (arguments input : List ℕ) → List ℕ
  with_numbers arguments input = let g = given count arguments input in reply_after input g.values g.end

-- a reply in a slice of `output` bytes, of which `needed` are asked for whatever the input: "output too short" is refusal 11 of
-- the call
unfoldable pub into : (needed : ℕ) (reply : List ℕ) (output : ℕ) → Checked (List ℕ)
into needed reply output = do
  _ ← require (leb needed output) (ShortOutput needed)
  accepted reply
