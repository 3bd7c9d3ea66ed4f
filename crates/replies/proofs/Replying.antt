-- What a program answers, from the numbers that it was given; and replies in slices of any length. Assumes nothing.
use Prim.Native.Nat.{ℕ, ◌-◌, ◌≤◌, ◌<◌}
use Rattle.std.specs.Prelude.{Ok, Err}
use mathlib.Core.Path.{◌≡◌, refl, sym, ap, ◌∙◌}
use mathlib.Core.List.{List}
use lib.ListN.{length, take, drop}
use borrow.Author.Tests.{le-leb, lt-leb}
use Rattle.lists.proofs.Writing.{take-drop-rest}
use Rattle.refusal.specs.declared.Refusal.{Refusal}
use Rattle.refusal.specs.declared.Refusal.TheVariants.{ShortOutput}
use Rattle.refusal.specs.Checked.{accepted}
use Rattle.report.specs.Programs.{refused_line}
use Rattle.report.specs.Replies.{Replied}
use Rattle.report.specs.Answers.{ReplyDone}
use Rattle.text.specs.declared.TextRefusal.TheVariants.{Arguments}
use Rattle.text.specs.declared.GivenEnd.{GivenEnd}
use Rattle.text.specs.declared.GivenEnd.TheVariants.{File, Unread, Extra}
use Rattle.text.specs.declared.Given.{Given}
use Rattle.text.specs.Numbers.{given}
use Rattle.text.proofs.Numbers.{given-place}
use Rattle.replies.specs.Lines.{text_line}
use Rattle.replies.specs.Replying.{reply_after, with_numbers, into}

-- What a program of `count` numbers replies, by where they end.
module _ (count : ℕ) (bad : ℕ → Refusal) (reply : (numbers file : List ℕ) → List ℕ) (arguments input : List ℕ) {g : Given}
    (is : g ≡ given count arguments input) {n : ℕ} {before after : List ℕ} where
  after_is : {end : GivenEnd} → g.end ≡ end → Replied (reply_after count bad reply input g.values end) n before after
      → Replied (with_numbers count bad reply arguments input) n before after
  unfolding with_numbers
  after_is e r = rw (← is, e) r

  pub unread-replied : {i : ℕ} → g.end ≡ Unread i → Replied (refused_line (bad i)) n before after
      → Replied (with_numbers count bad reply arguments input) n before after
  unread-replied e r = after_is e r

  pub extra-replied : g.end ≡ Extra → Replied (text_line (Arguments count)) n before after
      → Replied (with_numbers count bad reply arguments input) n before after
  extra-replied e r = after_is e r

  -- the file as the code lends it
  pub file-replied : {place : ℕ} → g.end ≡ File place
      → Replied (reply g.values (take (length input - place) (drop place input))) n before after
      → Replied (with_numbers count bad reply arguments input) n before after
  file-replied {place} e r = after_is e (rw (take-drop-rest input place) at r)

-- the file is within the input
pub file-inside : (count : ℕ) (arguments input : List ℕ) {g : Given} → g ≡ given count arguments input → {place : ℕ}
    → g.end ≡ File place → place ≤ length input
file-inside count arguments input is e = (given-place count arguments input (sym (ap (λ g. g.end) is) ∙ e)).1

-- Replies in slices: refused exactly where a slice is too short.
module _ (needed : ℕ) (reply before : List ℕ) where
  pub into-refused : length before < needed
      → ReplyDone (into needed reply (length before)) before before (Err (ShortOutput needed))
  unfolding into
  into-refused short = rw (lt-leb needed (length before) short) (record { answer = refl; output-after = refl })

  pub into-written : {n : ℕ} {after : List ℕ} → needed ≤ length before → Replied reply n before after
      → ReplyDone (into needed reply (length before)) before after (Ok n)
  unfolding into
  into-written enough r =
      rw (le-leb needed (length before) enough) (record { answer = ap Ok r.answered; output-after = r.written })

-- in a slice as long as that of a program its reply is never refused
pub into-enough : (needed : ℕ) (reply : List ℕ) (output : ℕ) → needed ≤ output → into needed reply output ≡ accepted reply
unfolding into
into-enough needed reply output enough = rw (le-leb needed output enough)
