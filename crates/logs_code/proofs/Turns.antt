-- Reading a log line by line: the lines that are left answer for the whole. Assumes nothing.
use Prim.Native.Nat.{ℕ, suc, ◌+◌, ◌≤◌, ◌<◌}
use Rattle.std.specs.Prelude.{Ok, Err}
use native.Mathlib.Omega.{arith}
use native.Mathlib.Numerals.{add-one}
use mathlib.Core.Path.{◌≡◌, refl, ◌∙◌, ap}
use mathlib.Core.List.{List, [], ◌∷◌, ◌++◌}
use lib.ListN.{length, take, drop, get_or, set, length-set, drop_of_length-le}
use lib.Seq.{length-take-le, take-suc-set, drop-cons}
use lib.Dec.{eqb}
use borrow.Author.Tests.{lt-ltb, le-ltb}
use Rattle.std.proofs.Common.{Option, Some, None}
use Rattle.std.specs.List.{slice_split, enumerate_from}
use Rattle.std.specs.Iterator.{Yields}
use Rattle.std.proofs.lemmas.Iterator.{YieldsList}
use Rattle.std.proofs.lemmas.Iterator.Consumers.{YieldsList-turn, YieldsList-end}
use Rattle.std.proofs.lemmas.List.FromFn.{length-enumerate_from, get_or-enumerate_from}
use Rattle.table.specs.Lines.{lines_of}
use Rattle.table_lines.proofs.Splitting.{lines-split}
use Rattle.replay.specs.declared.Event.{Event}
use Rattle.text.specs.declared.TextRefusal.{TextRefusal}
use Rattle.text.specs.declared.TextRefusal.TheVariants.{Unreadable as UnreadableLine, TooLong}
use Rattle.logs.specs.declared.LogLine.{LogLine}
use Rattle.logs.specs.declared.LogLine.TheVariants.{Happens, Nothing, Unreadable}
use Rattle.logs.specs.declared.Log.{Log}
use Rattle.logs.specs.Lines.{line_of}
use Rattle.logs.specs.Reading.{LogRead, events, unread, ◌>>=◌, LogIn, add_line, read_lines, read_text, read_log, events_most, text_most}

-- a refused text
pub unread-in : {read : LogRead} {e : TextRefusal} (log : Log) → read ≡ unread e → log.end ≡ Err e → LogIn read log
unread-in log is end = rw is end

-- a text that is too long
pub long-unread : (text : List ℕ) → text_most ≤ length text → read_log text ≡ unread (TooLong text_most)
unfolding read_log
long-unread text h = rw (le-ltb (length text) text_most h)

-- Before each turn: n lines are read, and those after them answer for the whole text.
pub record LogTurn (text : List ℕ) (held : List Event) (count n : ℕ) : Type 0 where
  pub long : length held ≡ events_most
  pub most : count ≤ events_most
  pub same : read_log text ≡ read_lines (suc n) (drop n (lines_of text)) (take count held)

pub turn-start : (text : List ℕ) (held : List Event) → length text < text_most → length held ≡ events_most → LogTurn text held 0 0
unfolding read_log read_text
turn-start text held short long =
    record { long = long; most = omega arith; same = rw (lt-ltb (length text) text_most short) refl }

-- The line that a turn reads.
pub record LineAt (text bytes : List ℕ) (n i : ℕ) : Type 0 where
  pub more : n < length (lines_of text)
  pub index : i ≡ n
  pub is : bytes ≡ get_or (lines_of text) n bytes

pub line-at : (text : List ℕ) {S A : Type 0} {steps : S → Option A → S → Type 0} {v : A → ℕ × List ℕ} {s : S}
    → YieldsList steps v s (enumerate_from 0 (slice_split (λ b. eqb b 10) text)) → (xs : List A) (t : S) → Yields steps s xs t
    → (r : Option A) (u : S) (x : A) → r ≡ Some x → steps t r u → LineAt text (v x).1 (length xs) (v x).0
line-at text {v = v} road xs t y r u x is step =
    let turn = YieldsList-turn road xs t y r u x is step in
    let parts = slice_split (λ b. eqb b 10) text in
    let more : length xs < length parts = omega (arith, turn.0, length-enumerate_from 0 parts) in
    let pair : v x ≡ (0 + length xs, get_or parts (length xs) (v x).1) = turn.1 ∙ get_or-enumerate_from 0 parts (length xs) (v x) more in
    record {
      more = rw lines-split at more;
      index = ap (λ (p : ℕ × List ℕ). p.0) pair ∙ omega arith;
      is = rw lines-split at (ap (λ (p : ℕ × List ℕ). p.1) pair);
    }

-- all are read
pub lines-all : (text : List ℕ) {S A : Type 0} {steps : S → Option A → S → Type 0} {v : A → ℕ × List ℕ} {s : S}
    → YieldsList steps v s (enumerate_from 0 (slice_split (λ b. eqb b 10) text)) → (xs : List A) (t : S) → Yields steps s xs t
    → (r : Option A) (u : S) → r ≡ None → steps t r u → length xs ≡ length (lines_of text)
lines-all text road xs t y r u is step =
    rw (← lines-split text) ((YieldsList-end road xs t y r u is step).1 ∙ length-enumerate_from 0 (slice_split (λ b. eqb b 10) text))

module _ {text : List ℕ} {held : List Event} {count n : ℕ} (turn : LogTurn text held count n) where
  -- after the last line
  pub turn_end : n ≡ length (lines_of text) → LogIn (read_log text) (record { end = Ok tt; count = count; events = held })
  unfolding read_lines
  turn_end last =
      let all : length (lines_of text) ≤ n = omega arith in
      let is : read_log text ≡ events (take count held) = turn.same ∙ rw (drop_of_length-le (lines_of text) all) in
      rw is (record { whole = refl; most = turn.most; are = refl })

  -- one line more
  module _ {bytes : List ℕ} {i : ℕ} (line : LineAt text bytes n i) where
    module _ {found : LogLine} (found-is : found ≡ line_of bytes) where
      step : read_log text ≡ (add_line (n + 1) found (take count held) >>= read_lines (suc (n + 1)) (drop (n + 1) (lines_of text)))
      unfolding read_lines
      step = turn.same ∙ rw (drop-cons (lines_of text) n bytes line.more, ← line.is, ← found-is, add-one n) refl

      pub turn-unreadable : found ≡ Unreadable → read_log text ≡ unread (UnreadableLine (i + 1))
      unfolding add_line
      turn-unreadable is = step ∙ rw (is, line.index) refl

      pub turn-nothing : found ≡ Nothing → LogTurn text held count (n + 1)
      unfolding add_line
      turn-nothing is = record { long = turn.long; most = turn.most; same = step ∙ rw is refl }

      module _ {e : Event} (is : found ≡ Happens e) where
        size_is : length (take count held) ≡ count
        size_is = length-take-le count held (omega (arith, turn.long, turn.most))

        pub turn-full : events_most ≤ count → read_log text ≡ unread (TooLong events_most)
        unfolding add_line
        turn-full h = step ∙ rw (is, size_is, le-ltb count events_most h) refl

        pub turn-event : count < events_most → LogTurn text (set held count e) (count + 1) (n + 1)
        unfolding add_line
        turn-event h =
            let kept : take (count + 1) (set held count e) ≡ take count held ++ (e ∷ []) =
            rw (add-one count) (take-suc-set held count e (omega (arith, turn.long))) in
            record {
              long = rw length-set turn.long;
              most = omega arith;
              same = step ∙ rw (is, size_is, lt-ltb count events_most h, kept) refl;
            }
