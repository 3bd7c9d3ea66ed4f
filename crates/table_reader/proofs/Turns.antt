-- Reading a text line by line, of a table and of bare rows alike: the lines that are left answer for the whole. Assumes nothing.
use Prim.Native.Nat.{ℕ, suc, ◌+◌, ◌≤◌}
use Rattle.std.specs.Prelude.{Result, Ok, Err}
use native.Mathlib.Omega.{arith}
use native.Mathlib.Numerals.{add-one}
use mathlib.Core.Path.{◌≡◌, refl, ◌∙◌}
use mathlib.Core.List.{List, [], ◌∷◌}
use lib.ListN.{length, take, drop, set, drop_of_length-le}
use lib.Seq.{drop-cons, take-suc-set}
use Rattle.number.specs.Numbers.{largest_number}
use Rattle.table.specs.declared.Fault.{Fault}
use Rattle.table.specs.declared.Progress.{Progress}
use Rattle.table.specs.Told.{Told, good, bad, ◌>>=◌}
use Rattle.table.specs.Lines.{lines_of}
use Rattle.table.specs.Reading.{Draft}
use Rattle.table.specs.Progress.{Kept, Room, Grown, draft_of}
use Rattle.table_lines.proofs.Splitting.{LineAt}

-- Before each turn: so many lines are read, and those after them answer for the whole text. `reads` goes through lines from one on.
pub record Turn (reads : ℕ → List (List ℕ) → Draft → Told Draft) (whole : Told Draft) (text numbers rows lines : List ℕ) (p : Progress)
    (line : ℕ) : Type 0 where
  pub kept : Kept p (take p.count numbers)
  pub room : Room numbers rows lines
  pub same : whole ≡ reads (suc line) (drop line (lines_of text)) (draft_of p numbers rows lines)

-- slices of the same lengths have the same room
pub room-same : {numbers rows lines numbers' rows' lines' : List ℕ} → Room numbers rows lines → length numbers' ≡ length numbers
    → length rows' ≡ length rows → length lines' ≡ length lines → Room numbers' rows' lines'
room-same room e f g =
    record {
      for-numbers = omega (arith, room.for-numbers, e);
      for-rows = omega (arith, room.for-rows, f);
      for-lines = omega (arith, room.for-lines, g);
    }

-- before the first line nothing is there but the file's kind
abbrev pub no_progress : Progress
no_progress = record { n = 0; r = 0; count = 1; layers = 0; blocks = 0; place = 0 }

pub first-turn : (reads : ℕ → List (List ℕ) → Draft → Told Draft) (kind : ℕ) → kind ≤ largest_number → (text numbers rows lines : List ℕ)
    → Room numbers rows lines → {numbers' : List ℕ} → numbers' ≡ set numbers 0 kind → length numbers' ≡ length numbers
    → Turn reads
    (reads 1 (lines_of text) (record { n = 0; r = 0; layers = 0; blocks = 0; numbers = kind ∷ []; rows = []; lines = [] }))
    text numbers' rows lines no_progress 0
first-turn reads kind small text numbers rows lines room {numbers'} is len =
    let first : take 1 numbers' ≡ kind ∷ [] = rw is (take-suc-set numbers 0 kind (omega (arith, room.for-numbers))) in
    record {
      kept =
          record {
            n-most = omega arith;
            r-most = omega arith;
            layers-most = omega arith;
            blocks-most = omega arith;
            place-most = omega arith;
            fresh = λ e. refl;
            begun = λ e. absurd (omega arith);
            count_most = omega arith;
            numbers-most = rw first (small, tt);
            size-most = λ e. absurd (omega arith);
          };
      room = record { for-numbers = omega (arith, room.for-numbers); for-rows = room.for-rows; for-lines = room.for-lines };
      same = rw first refl;
    }

module _ {reads : ℕ → List (List ℕ) → Draft → Told Draft} {whole : Told Draft} {text numbers rows lines : List ℕ} {p : Progress} {line : ℕ}
    (turn : Turn reads whole text numbers rows lines p line) where
  -- after the last line
  pub at-end : line ≡ length (lines_of text) → whole ≡ reads (suc line) [] (draft_of p numbers rows lines)
  at-end last =
      let all : length (lines_of text) ≤ line = omega arith in
      turn.same ∙ rw (drop_of_length-le (lines_of text) all)

  -- one line more
  module _ {bytes : List ℕ} (at : LineAt text bytes line) (add : ℕ → List ℕ → Draft → Told Draft)
      (steps : (number : ℕ) (bytes : List ℕ) (others : List (List ℕ)) (d : Draft)
      → reads number (bytes ∷ others) d ≡ (add number bytes d >>= reads (suc number) others)) where
    step : whole ≡ (add (line + 1) bytes (draft_of p numbers rows lines) >>= reads (suc (line + 1)) (drop (line + 1) (lines_of text)))
    step =
        turn.same
        ∙ rw (drop-cons (lines_of text) line bytes at.more, ← at.is, add-one line)
        (steps (suc line) bytes (drop (suc line) (lines_of text)) (draft_of p numbers rows lines))

    module _ (added : Result Progress Fault) (numbers' rows' lines' : List ℕ)
        (grown : Grown (add (line + 1) bytes (draft_of p numbers rows lines)) added numbers' rows' lines') where
      pub bad-turn : {e : Fault} → added ≡ Err e → Grown whole added numbers' rows' lines'
      bad-turn {e} is = rw step (go (add (line + 1) bytes (draft_of p numbers rows lines)) (rw is at grown))
        where
          go : (told : Told Draft) → Grown told (Err e) numbers' rows' lines'
              → Grown (told >>= reads (suc (line + 1)) (drop (line + 1) (lines_of text))) added numbers' rows' lines'
          go (good d) g = absurd g
          go (bad f) g = rw is g

      pub next-turn : {next : Progress} → added ≡ Ok next → Room numbers' rows' lines'
          → Turn reads whole text numbers' rows' lines' next (line + 1)
      next-turn {next} is room =
          go (add (line + 1) bytes (draft_of p numbers rows lines)) refl (rw is at grown)
        where
          go : (told : Told Draft) → add (line + 1) bytes (draft_of p numbers rows lines) ≡ told
              → Grown told (Ok next) numbers' rows' lines' → Turn reads whole text numbers' rows' lines' next (line + 1)
          go (good d) e g = record { kept = g.1; room = room; same = step ∙ rw (e, g.0) refl }
          go (bad f) e g = absurd g
