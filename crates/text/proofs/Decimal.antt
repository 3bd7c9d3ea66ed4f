-- The turns of the loop that reads a decimal number: each way a turn ends, and that nothing wraps. Assumes nothing.
use Prim.Native.Nat.{ℕ, zero, suc, ◌+◌, ◌*◌, ◌-◌, ◌≤◌, ◌<◌}
use Rattle.std.specs.Prelude.{Ok, Err}
use native.Mathlib.Omega.{arith}
use native.Mathlib.Numerals.{add-one}
use native.Mathlib.Nat.{le_refl}
use mathlib.Core.Path.{◌≡◌, refl, ◌∙◌, ap}
use mathlib.Core.Bool.{Bool, true, false, cond, ◌&&◌}
use mathlib.Core.List.{List}
use lib.ListN.{length, get_or, get_or-eq_default}
use lib.Dec.{leb, leb→le}
use mathlib.Core.Logic.{⊎_elim}
use Rattle.lists.proofs.Arith.{le-or-lt}
use Rattle.lists.proofs.Tests.{T_true, and_right}
use borrow.Author.Tests.{le-leb, lt-leb, lt-ltb, le-ltb, ne_eqb}
use Rattle.refusal.specs.declared.Refusal.TheVariants.{Malformed}
use Rattle.number.specs.Answers.{number_read}
use Rattle.text.specs.Decimal.{is_digit, end_digits, read_digits, read_decimal}
use Rattle.text.specs.Digits.{digit_at}

-- the largest number of so many digits
unfoldable pub nines : ℕ → ℕ
nines zero = 0
nines (suc digits) = nines digits * 10 + 9

nines-le : (more digits : ℕ) → nines digits ≤ nines (more + digits)
unfolding nines
nines-le zero digits = let e : 0 + digits ≡ digits = omega arith in rw e (le_refl (nines digits))
nines-le (suc more) digits =
    let e : suc more + digits ≡ suc (more + digits) = omega arith in
    rw e (omega (arith, nines-le more digits))

pub nines-most : (digits : ℕ) → digits ≤ 9 → nines digits ≤ 999_999_999
unfolding nines
nines-most digits h =
    let e : 9 - digits + digits ≡ 9 = omega arith in
    rw e at (nines-le (9 - digits) digits)

-- a byte below `0` or above `9` is no digit
below-digits : (byte : ℕ) → byte < 48 → is_digit byte ≡ false
below-digits byte h = rw (lt-leb 48 byte h)

above-digits : (byte : ℕ) → 57 < byte → is_digit byte ≡ false
above-digits byte h = go (leb 48 byte)
  where
    go : (b : Bool) → (b && leb byte 57) ≡ false
    go true = lt-leb byte 57 h
    go false = refl

-- the digit at a place, by the byte there
module _ (text : List ℕ) (at : ℕ) where
  pub digit-past : length text ≤ at → 10 ≡ digit_at text at
  digit-past h = rw (get_or-eq_default text 0 h)

  pub digit-below : get_or text at 0 < 48 → 10 ≡ digit_at text at
  digit-below h = rw (below-digits (get_or text at 0) h)

  pub digit-above : 57 < get_or text at 0 → 10 ≡ digit_at text at
  digit-above h = rw (above-digits (get_or text at 0) h)

  pub digit-is : 48 ≤ get_or text at 0 → get_or text at 0 ≤ 57 → get_or text at 0 - 48 ≡ digit_at text at
  digit-is low high = rw (le-leb 48 (get_or text at 0) low, le-leb (get_or text at 0) 57 high)

  -- a digit is within the text
  pub digit-inside : digit_at text at ≤ 9 → at < length text
  digit-inside h = ⊎_elim (λ past. absurd (let ten = digit-past past in omega arith)) (λ inside. inside) (le-or-lt (length text) at)

  -- and the byte by the digit
  no_digit : 9 < digit_at text at → is_digit (get_or text at 0) ≡ false
  no_digit h = go (is_digit (get_or text at 0)) refl h
    where
      go : (b : Bool) → is_digit (get_or text at 0) ≡ b → 9 < cond b (get_or text at 0 - 48) 10 → b ≡ false
      go true e h =
          let high = leb→le (get_or text at 0) 57 (and_right (leb 48 (get_or text at 0)) (leb (get_or text at 0) 57) (T_true e)) in
          absurd (omega arith)
      go false e h = refl

  some-digit : digit_at text at ≤ 9 → (is_digit (get_or text at 0) ≡ true) × (digit_at text at ≡ get_or text at 0 - 48)
  some-digit h = go (is_digit (get_or text at 0)) refl h
    where
      go : (b : Bool) → is_digit (get_or text at 0) ≡ b → cond b (get_or text at 0 - 48) 10 ≤ 9
          → (b ≡ true) × (cond b (get_or text at 0 - 48) 10 ≡ get_or text at 0 - 48)
      go true e h = (refl, refl)
      go false e h = absurd (omega arith)

-- the end of an argument, by the byte there
module _ (text : List ℕ) (start at value : ℕ) where
  pub end_empty : at ≤ start → Err (Malformed start) ≡ number_read (end_digits text start at value)
  end_empty h = rw (le-ltb start at h)

  module _ (some : start < at) where
    pub end-past : length text ≤ at → Err (Malformed start) ≡ number_read (end_digits text start at value)
    end-past h = rw (lt-ltb start at some, le-ltb at (length text) h)

    module _ (inside : at < length text) where
      pub end-other : 0 < get_or text at 0 → Err (Malformed start) ≡ number_read (end_digits text start at value)
      end-other h = rw (lt-ltb start at some, lt-ltb at (length text) inside, ne_eqb (get_or text at 0) 0 (λ e. omega arith))

      pub end-number : get_or text at 0 ≤ 0 → Ok (record { value = value; next = at + 1 })
          ≡ number_read (end_digits text start at value)
      end-number h =
          let zero-byte : get_or text at 0 ≡ 0 = omega arith in
          rw (lt-ltb start at some, lt-ltb at (length text) inside, zero-byte, add-one at)

-- Before each turn: what is left to read answers for the whole, and the digits so far make a number of so many.
pub record DigitTurn (text : List ℕ) (start digits at value : ℕ) : Type 0 where
  pub few : digits ≤ 9
  pub same : read_decimal text start ≡ read_digits (9 - digits) text start at value
  pub most : value ≤ nines digits

pub digits-holds : (text : List ℕ) (start : ℕ) → DigitTurn text start 0 start 0
unfolding read_decimal nines
digits-holds text start = record { few = omega arith; same = refl; most = omega arith }

module _ {text : List ℕ} {start digits at value : ℕ} (turn : DigitTurn text start digits at value) where
  -- nine digits are read
  pub digits-all : 9 ≤ digits → read_decimal text start ≡ end_digits text start at value
  unfolding read_digits
  digits-all h =
      let none : 9 - digits ≡ 0 = omega arith in
      turn.same ∙ ap (λ (l : ℕ). read_digits l text start at value) none

  module _ (more : digits < 9) where
    same_more : read_decimal text start ≡ read_digits (suc (9 - (digits + 1))) text start at value
    same_more =
        let one : 9 - digits ≡ suc (9 - (digits + 1)) = omega arith in
        turn.same ∙ ap (λ (l : ℕ). read_digits l text start at value) one

    pub digits-end : 9 < digit_at text at → read_decimal text start ≡ end_digits text start at value
    unfolding read_digits
    digits-end h = same_more ∙ rw (no_digit text at h)

    -- nine digits don't wrap
    pub digits-fit : value * 10 + 9 ≤ 999_999_999
    unfolding nines
    digits-fit = omega (arith, turn.most, nines-most (suc digits) (omega arith))

    pub digits-again : digit_at text at ≤ 9 → DigitTurn text start (digits + 1) (at + 1) (value * 10 + digit_at text at)
    unfolding read_digits nines
    digits-again h =
        let digit = some-digit text at h in
        record {
          few = omega arith;
          same = same_more ∙ rw (digit.0, add-one at);
          most = rw (add-one digits) (omega (arith, turn.most));
        }
