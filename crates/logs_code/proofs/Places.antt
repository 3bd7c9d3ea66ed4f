-- The loops over a word's bytes, place by place. Assumes nothing.
use Prim.Native.Nat.{ℕ, suc, ◌+◌, ◌*◌, ◌-◌, ◌≤◌, ◌<◌}
use Rattle.std.specs.Prelude.{Some, None}
use native.Mathlib.Omega.{arith}
use native.Mathlib.Numerals.{add-one}
use mathlib.Core.Path.{◌≡◌, refl, sym, ◌∙◌, ap}
use mathlib.Core.Bool.{Bool, true, false, not, cond, ◌&&◌}
use mathlib.Core.List.{List, [], ◌∷◌}
use lib.ListN.{length, drop, get_or, drop_of_length-le}
use lib.Seq.{drop-cons}
use lib.Dec.{eqb}
use lib.Pointwise.{pointwise}
use borrow.Author.Tests.{le-leb, lt-leb}
use Rattle.std.proofs.Common.{Option}
use Rattle.std.specs.Option.{unwrap_or}
use Rattle.std.specs.List.{position, position_or_len}
use Rattle.table_lines.proofs.Looking.{place-or-end}
use Rattle.logs.specs.Lines.{leading, digits_from, number_of, same_bytes}
use Rattle.logs.proofs.Lines.{leading_le}

pub twice : (t : Bool) → t ≡ not (not t)
twice true = refl
twice false = refl

-- bytes pass the test up to the first that stops
leading-place : (test stop : ℕ → Bool) → ((b : ℕ) → test b ≡ not (stop b)) → (bytes : List ℕ) → position_or_len stop bytes ≡ leading test bytes
unfolding leading
leading-place test stop is [] = refl
leading-place test stop is (b ∷ bytes) = rw (is b) (go (not (stop b)) (leading-place test stop is bytes))
  where
    go : (t : Bool) {n m : ℕ} → n ≡ m → cond t (1 + n) 0 ≡ cond t (suc m) 0
    go true e = omega (arith, e)
    go false e = refl

pub leading-or-end : (test stop : ℕ → Bool) → ((b : ℕ) → test b ≡ not (stop b)) → (bytes : List ℕ) {r : Option ℕ}
    → r ≡ position stop bytes
    → unwrap_or r (length bytes) ≡ leading test bytes
leading-or-end test stop is bytes found = place-or-end stop bytes (leading-place test stop is bytes) (leading_le test bytes) found

module _ (word : List ℕ) where
  pub no_digit : length word ≡ 0 → None ≡ number_of word
  unfolding number_of
  no_digit z = go word z
    where
      go : (w : List ℕ) → length w ≡ 0 → None ≡ number_of w
      go [] e = refl
      go (byte ∷ w) e = absurd (omega arith)

  -- the digits before place i make `value`
  pub record Digits (i value : ℕ) : Type 0 where
    pub within : i ≤ length word
    pub small : value ≤ 4_294_967_295
    pub same : number_of word ≡ digits_from value (drop i word)

  pub digits-none : (length word ≡ 0 → ⊥) → Digits 0 0
  unfolding number_of
  digits-none h = record { within = omega arith; small = omega arith; same = go word h }
    where
      go : (w : List ℕ) → (length w ≡ 0 → ⊥) → number_of w ≡ digits_from 0 w
      go [] e = absurd (e refl)
      go (byte ∷ w) e = refl

  module _ {i value : ℕ} (d : Digits i value) where
    pub digits-all : length word ≤ i → Some value ≡ number_of word
    unfolding digits_from
    digits-all h = sym (d.same ∙ rw (drop_of_length-le word h))

    module _ (more : i < length word) where
      pub digit_low : get_or word i 0 < 48 → None ≡ number_of word
      unfolding digits_from
      digit_low h = sym (d.same ∙ rw (drop-cons word i 0 more, lt-leb 48 (get_or word i 0) h))

      module _ (low : 48 ≤ get_or word i 0) where
        pub digit-high : 57 < get_or word i 0 → None ≡ number_of word
        unfolding digits_from
        digit-high h = sym (d.same ∙ rw (drop-cons word i 0 more, le-leb 48 (get_or word i 0) low, lt-leb (get_or word i 0) 57 h))

        module _ (high : get_or word i 0 ≤ 57) {next : ℕ} (is : next ≡ value * 10 + (get_or word i 0 - 48)) where
          pub digit-large : 4_294_967_295 < next → None ≡ number_of word
          unfolding digits_from
          digit-large h =
              sym (d.same
              ∙ rw (drop-cons word i 0 more, le-leb 48 (get_or word i 0) low, le-leb (get_or word i 0) 57 high, ← is, lt-leb next 4_294_967_295 h))

          pub digit-next : next ≤ 4_294_967_295 → Digits (i + 1) next
          unfolding digits_from
          digit-next h =
              record {
                within = omega arith;
                small = h;
                same = d.same
                    ∙ rw (
                      drop-cons word i 0 more,
                      le-leb 48 (get_or word i 0) low,
                      le-leb (get_or word i 0) 57 high,
                      ← is,
                      le-leb next 4_294_967_295 h,
                      add-one i,
                    );
              }

-- bytes are compared one by one
pub same_pointwise : (a b : List ℕ) → pointwise eqb a b ≡ same_bytes a b
unfolding same_bytes
same_pointwise [] [] = refl
same_pointwise [] (y ∷ b) = refl
same_pointwise (x ∷ a) [] = refl
same_pointwise (x ∷ a) (y ∷ b) = ap (λ t. eqb x y && t) (same_pointwise a b)
