-- A line's length, and the turns of the loop that puts its numbers. Assumes nothing.
use Prim.Native.Nat.{ℕ, suc, ◌+◌, ◌*◌, ◌≤◌, ◌<◌}
use native.Mathlib.Omega.{arith}
use native.Mathlib.Numerals.{add-one}
use mathlib.Core.Path.{◌≡◌, refl, sym, ◌∙◌, ap}
use mathlib.Core.List.{List, [], ◌∷◌, ◌++◌}
use lib.ListN.{length, drop, set, get_or, length-append, length-set}
use lib.Seq.{sets, drop-cons, drop-length}
use Rattle.report.specs.Programs.{decimal, rest}
use Rattle.report_lines.specs.Put.{Put}
use Rattle.report_lines.proofs.decimal.Decimal.{decimal-length-le}
use Rattle.lists.proofs.Stores.{sets-append}

-- a space and at most 20 digits a number, and the newline
pub rest-length-le : (numbers : List ℕ) → length (rest numbers) ≤ 21 * length numbers + 1
unfolding rest
rest-length-le [] = omega arith
rest-length-le (n ∷ numbers) =
    rw (length-append (decimal n)) (omega (arith, rest-length-le numbers, decimal-length-le n))

-- What is left of the line, stored from `place` on, makes the whole of it from `at` on.
pub record Turn (numbers before after : List ℕ) (at place i : ℕ) : Type 0 where
  pub passed : i ≤ length numbers
  pub ends : place + length (rest (drop i numbers)) ≡ at + length (rest numbers)
  pub enough : at + length (rest numbers) ≤ length before
  pub same_length : length after ≡ length before
  pub same : sets after place (rest (drop i numbers)) ≡ sets before at (rest numbers)

pub turn_holds : (numbers before : List ℕ) (at : ℕ) → at + 21 * length numbers + 1 ≤ length before
    → Turn numbers before before at at 0
turn_holds numbers before at h =
    record {
      passed = omega arith;
      ends = refl;
      enough = omega (arith, rest-length-le numbers);
      same_length = refl;
      same = refl;
    }

module _ (numbers before after : List ℕ) (at place i : ℕ) (turn : Turn numbers before after at place i) where
  -- the newline at the end
  module _ (last : length numbers ≤ i) where
    rest-none : rest (drop i numbers) ≡ 10 ∷ []
    unfolding rest
    rest-none =
        let e : i ≡ length numbers = omega (arith, turn.passed) in
        rw (e, drop-length numbers)

    pub turn_last : Put (rest numbers) before at (place + 1) (set after place 10)
    turn_last = record { ends = rw rest-none at turn.ends; stored = rw rest-none at turn.same }

    pub turn-last-inside : place < length after
    turn-last-inside = omega (arith, turn_last.ends, turn.enough, turn.same_length)

  -- a space and a number
  module _ (more : i < length numbers) where
    rest_more : rest (drop i numbers) ≡ 32 ∷ (decimal (get_or numbers i 0) ++ rest (drop (i + 1) numbers))
    unfolding rest
    rest_more = rw (add-one i, drop-cons numbers i 0 more)

    abbrev tail : List ℕ
    tail = rest (drop (i + 1) numbers)

    ends_more : place + 1 + (length (decimal (get_or numbers i 0)) + length tail) ≡ at + length (rest numbers)
    ends_more =
        let e = turn.ends in
        omega (arith, ap length rest_more, length-append (decimal (get_or numbers i 0)) tail)

    pub turn-room : place + 1 + length (decimal (get_or numbers i 0)) ≤ length after
    turn-room = omega (arith, ends_more, turn.enough, turn.same_length)

    pub turn-again : (next : ℕ) (out : List ℕ) → length out ≡ length (set after place 32)
        → Put (decimal (get_or numbers i 0)) (set after place 32) (place + 1) next out
        → Turn numbers before out at next (i + 1)
    turn-again next out len put =
        let digits = decimal (get_or numbers i 0) in
        let same : sets (set after place 32) (suc place) (digits ++ tail) ≡ sets before at (rest numbers) =
        rw rest_more at turn.same in
        let halves = sets-append (set after place 32) (suc place) digits tail in
        record {
          passed = omega arith;
          ends = omega (arith, ends_more, put.ends);
          enough = turn.enough;
          same_length = len ∙ length-set after place 32 ∙ turn.same_length;
          same = rw (put.ends, put.stored, add-one place) (sym halves ∙ same);
        }
