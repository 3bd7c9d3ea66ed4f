-- The turns of the loop that reads a line's numbers. Assumes nothing.
use Prim.Native.Nat.{ℕ, zero, suc, ◌+◌, ◌*◌, ◌-◌, ◌≤◌, ◌<◌}
use Rattle.std.specs.Prelude.{Some, None}
use native.Mathlib.Omega.{arith}
use native.Mathlib.Numerals.{add-one}
use native.Mathlib.Nat.{le_refl}
use mathlib.Core.Path.{◌≡◌, refl, ◌∙◌}
use mathlib.Core.Bool.{true, false}
use mathlib.Core.List.{List, []}
use mathlib.Core.Option.{some}
use lib.ListN.{length, take, drop, get_or, set, drop_of_length-le, length-set}
use lib.Seq.{drop-cons, length-take-le, take-suc-set}
use borrow.Author.Tests.{lt-ltb, le-ltb}
use Rattle.table.specs.Lines.{is_digit, is_blank, ended, read_numbers}
use Rattle.table.specs.Progress.{digit_of, NumbersIn}
use Rattle.table.proofs.Numbers.{tens, ended_some}
use Rattle.table_lines.proofs.DigitOf.{a-digit, a-blank, another}

tens-le : (more digits : ℕ) → tens digits ≤ tens (more + digits)
unfolding tens
tens-le zero digits = let e : 0 + digits ≡ digits = omega arith in rw e (le_refl (tens digits))
tens-le (suc more) digits =
    let e : suc more + digits ≡ suc (more + digits) = omega arith in
    rw e (omega (arith, tens-le more digits))

pub tens-most : (digits : ℕ) → digits ≤ 8 → tens digits ≤ 100_000_000
unfolding tens
tens-most digits h =
    let e : 8 - digits + digits ≡ 8 = omega arith in
    rw e at (tens-le (8 - digits) digits)

-- Before each turn: what is left to read answers for the whole, after the numbers in the slice and the digits of one more.
pub record NumberTurn (line slice : List ℕ) (i digits value found : ℕ) : Type 0 where
  pub passed : i ≤ length line
  pub room : 255 ≤ length slice
  pub few : digits ≤ 8
  pub short : value < tens digits
  pub most : found ≤ 255
  pub begun : 0 < digits → found < 255
  pub same : read_numbers line 0 0 [] ≡ read_numbers (drop i line) digits value (take found slice)

pub turn_holds : (line slice : List ℕ) → 255 ≤ length slice → NumberTurn line slice 0 0 0 0
unfolding tens
turn_holds line slice h =
    record {
      passed = omega arith;
      room = h;
      few = omega arith;
      short = omega arith;
      most = omega arith;
      begun = λ e. absurd (omega arith);
      same = refl;
    }

module _ {line slice : List ℕ} {i digits value found : ℕ} (turn : NumberTurn line slice i digits value found) where
  held : length (take found slice) ≡ found
  held = length-take-le found slice (omega (arith, turn.most, turn.room))

  -- the present number is kept after the others
  kept : 0 < digits → take (found + 1) (set slice found value) ≡ ended digits value (take found slice)
  kept h =
      rw (add-one found, ended_some digits value (take found slice) h)
      (take-suc-set slice found value (omega (arith, turn.room, turn.begun h)))

  pub turn-room : 0 < digits → found < length slice
  turn-room h = omega (arith, turn.room, turn.begun h)

  -- at the line's end
  module _ (last : length line ≤ i) where
    at-end : read_numbers line 0 0 [] ≡ some (ended digits value (take found slice))
    unfolding read_numbers
    at-end = turn.same ∙ rw (drop_of_length-le line last)

    pub turn-none : digits ≡ 0 → NumbersIn (read_numbers line 0 0 []) (Some found) slice
    turn-none z =
        let e : read_numbers line 0 0 [] ≡ some (take found slice) = at-end ∙ rw z in
        rw (e, held) (refl, refl, turn.most)

    pub turn_last : 0 < digits → NumbersIn (read_numbers line 0 0 []) (Some (found + 1)) (set slice found value)
    turn_last h =
        let whole = kept h in
        let len : length (take (found + 1) (set slice found value)) ≡ found + 1 =
        length-take-le (found + 1) (set slice found value) (rw length-set (omega (arith, turn-room h))) in
        rw (at-end, ← whole, len) (refl, refl, omega (arith, turn.begun h))

  module _ (more : i < length line) {digit : ℕ} (is : digit ≡ digit_of (get_or line i 0)) where
    next : i + 1 ≤ length line
    next = omega arith

    -- a digit, where there is room for it
    module _ (small : digit < 10) where
      what : (is_blank (get_or line i 0) ≡ false) × (is_digit (get_or line i 0) ≡ true) × (digit_of (get_or line i 0) ≡ get_or line i 0 - 48)
      what = a-digit (get_or line i 0) (rw is at small)

      pub turn-full : 8 ≤ digits → NumbersIn (read_numbers line 0 0 []) None slice
      unfolding read_numbers
      turn-full h = rw (turn.same, drop-cons line i 0 more, what.0, what.1, le-ltb digits 8 h) refl

      pub turn_many : digits < 8 → 255 ≤ found → NumbersIn (read_numbers line 0 0 []) None slice
      unfolding read_numbers
      turn_many few h =
          rw (turn.same, drop-cons line i 0 more, what.0, what.1, lt-ltb digits 8 few, held, le-ltb found 255 h) refl

      pub turn-digit : digits < 8 → found < 255 → NumberTurn line slice (i + 1) (digits + 1) (value * 10 + digit) found
      unfolding read_numbers tens
      turn-digit few room =
          record {
            passed = next;
            room = turn.room;
            few = omega arith;
            short = rw (add-one digits) (omega (arith, turn.short));
            most = turn.most;
            begun = λ h. room;
            same = turn.same
                ∙ rw (drop-cons line i 0 more, what.0, what.1, lt-ltb digits 8 few, held, lt-ltb found 255 room, add-one i, add-one digits, is, what.2);
          }

    pub turn-other : 10 < digit → NumbersIn (read_numbers line 0 0 []) None slice
    unfolding read_numbers
    turn-other h =
        let what = another (get_or line i 0) (rw is at h) in
        rw (turn.same, drop-cons line i 0 more, what.0, what.1) refl

    module _ (least : 10 ≤ digit) (most : digit ≤ 10) where
      blank : is_blank (get_or line i 0) ≡ true
      blank = a-blank (get_or line i 0) (rw is at least) (rw is at most)

      pub turn-blank : digits ≡ 0 → NumberTurn line slice (i + 1) digits value found
      unfolding read_numbers tens
      turn-blank z =
          let v : value ≡ 0 = (let h : value < tens 0 = rw z at turn.short in omega arith) in
          record {
            passed = next;
            room = turn.room;
            few = turn.few;
            short = turn.short;
            most = turn.most;
            begun = turn.begun;
            same = turn.same ∙ rw (drop-cons line i 0 more, blank, z, v, add-one i);
          }

      pub turn-push : 0 < digits → NumberTurn line (set slice found value) (i + 1) 0 0 (found + 1)
      unfolding read_numbers tens
      turn-push h =
          record {
            passed = next;
            room = rw length-set turn.room;
            few = omega arith;
            short = omega arith;
            most = omega (arith, turn.begun h);
            begun = λ e. absurd (omega arith);
            same = turn.same ∙ rw (drop-cons line i 0 more, blank, add-one i, kept h);
          }
