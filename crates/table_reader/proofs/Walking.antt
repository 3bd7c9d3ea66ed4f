-- Reading a table as text line by line. Assumes nothing.
use Prim.Native.Nat.{ℕ, suc, ◌+◌, ◌-◌}
use Rattle.std.specs.Prelude.{Result, Ok, Err}
use native.Mathlib.Omega.{arith}
use mathlib.Core.Path.{◌≡◌, refl}
use mathlib.Core.List.{List}
use lib.ListN.{length, set}
use borrow.Author.Tests.{lt-ltb, le-ltb, eq-eqb, ne_eqb}
use Rattle.table.specs.declared.Fault.{Fault}
use Rattle.table.specs.declared.Progress.{Progress}
use Rattle.table.specs.Told.{ends_early}
use Rattle.table.specs.Lines.{lines_of}
use Rattle.table_lines.proofs.Splitting.{LineAt}
use Rattle.table.specs.Reading.{add_line, read_lines, read_text}
use Rattle.table.specs.Progress.{Room, Grown, draft_of}
use Rattle.table_reader.proofs.Turns.{Turn, no_progress, first-turn, at-end, bad-turn, next-turn}

abbrev pub ReadTurn : (text numbers rows lines : List ℕ) → Progress → (line : ℕ) → Type 0
ReadTurn text numbers rows lines p line = Turn read_lines (read_text text) text numbers rows lines p line

pub turn-start : (text numbers rows lines : List ℕ) → Room numbers rows lines → {numbers' : List ℕ} → numbers' ≡ set numbers 0 4
    → length numbers' ≡ length numbers → ReadTurn text numbers' rows lines no_progress 0
unfolding read_text
turn-start text numbers rows lines room is len = first-turn read_lines 4 (omega arith) text numbers rows lines room is len

module _ {text numbers rows lines : List ℕ} {p : Progress} {line : ℕ} (turn : ReadTurn text numbers rows lines p line) where
  -- after the last line
  module _ (last : line ≡ length (lines_of text)) where
    one_less : suc line - 1 ≡ line
    one_less = omega arith

    pub end_none : p.r ≡ 0 → Grown (read_text text) (Err (ends_early line)) numbers rows lines
    unfolding read_lines
    end_none z = rw (at-end turn last, le-ltb 0 p.r (omega arith), one_less) refl

    module _ (some-r : p.r ≡ 0 → ⊥) where
      pub end-few : (p.layers ≡ p.r → ⊥) → Grown (read_text text) (Err (ends_early line)) numbers rows lines
      unfolding read_lines
      end-few h = rw (at-end turn last, lt-ltb 0 p.r (omega arith), ne_eqb p.layers p.r h, one_less) refl

      pub end-all : p.layers ≡ p.r → Grown (read_text text) (Ok p) numbers rows lines
      unfolding read_lines
      end-all h = rw (at-end turn last, lt-ltb 0 p.r (omega arith), eq-eqb p.layers p.r h) (refl, turn.kept)

  -- one line more
  module _ {bytes : List ℕ} (at : LineAt text bytes line) (added : Result Progress Fault) (numbers' rows' lines' : List ℕ)
      (grown : Grown (add_line (line + 1) bytes (draft_of p numbers rows lines)) added numbers' rows' lines') where
    pub turn-bad : {e : Fault} → added ≡ Err e → Grown (read_text text) added numbers' rows' lines'
    unfolding read_lines
    turn-bad is = bad-turn turn at add_line (λ number bytes others d. refl) added numbers' rows' lines' grown is

    pub turn-next : {next : Progress} → added ≡ Ok next → Room numbers' rows' lines' → ReadTurn text numbers' rows' lines' next (line + 1)
    unfolding read_lines
    turn-next is room = next-turn turn at add_line (λ number bytes others d. refl) added numbers' rows' lines' grown is room
