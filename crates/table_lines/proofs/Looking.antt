-- Looking for a byte, and comparing a line with a word, place by place. Assumes nothing.
use Prim.Native.Nat.{ℕ, suc, ◌+◌, ◌≤◌, ◌<◌}
use native.Mathlib.Omega.{arith}
use native.Mathlib.Numerals.{add-one}
use mathlib.Core.Path.{◌≡◌, sym, ◌∙◌}
use mathlib.Core.Bool.{Bool, true, false}
use mathlib.Core.List.{List}
use lib.ListN.{length, drop, get_or, drop_of_length-le}
use lib.Seq.{drop-cons}
use borrow.Author.Tests.{eq-eqb, ne_eqb}
use Rattle.std.proofs.Common.{Option}
use Rattle.std.proofs.lemmas.Grind.{common_steps}
use Rattle.std.proofs.lemmas.Bool.Decides.{nat_tests}
use Rattle.std.specs.Option.{unwrap_or}
use Rattle.std.specs.List.{position, position_or_len}
use Rattle.table.specs.Lines.{before, begins}

-- the place of the first byte that stops, or the end, where so many stand before it
pub place-or-end : (stop : ℕ → Bool) (bytes : List ℕ) {n : ℕ} {r : Option ℕ} → position_or_len stop bytes ≡ n → n ≤ length bytes
    → r ≡ position stop bytes → unwrap_or r (length bytes) ≡ n
place-or-end stop bytes p most is = rw is (grind (arith, common_steps, nat_tests))

module _ (byte : ℕ) (bytes : List ℕ) where
  -- what is before the first such byte, from place i on
  pub record Looked (i : ℕ) : Type 0 where
    pub within : i ≤ length bytes
    pub same : length (before byte bytes) ≡ i + length (before byte (drop i bytes))

  pub looked-none : Looked 0
  looked-none = let e : 0 + length (before byte bytes) ≡ length (before byte bytes) = omega arith in record { within = omega arith; same = sym e }

  module _ {i : ℕ} (l : Looked i) where
    pub looked-all : length bytes ≤ i → i ≡ length (before byte bytes)
    unfolding before
    looked-all h = let e : i + 0 ≡ i = omega arith in sym (l.same ∙ rw (drop_of_length-le bytes h, e))

    module _ (more : i < length bytes) where
      pub looked-here : get_or bytes i 0 ≡ byte → i ≡ length (before byte bytes)
      unfolding before
      looked-here is =
          let e : i + 0 ≡ i = omega arith in
          sym (l.same ∙ rw (drop-cons bytes i 0 more, eq-eqb (get_or bytes i 0) byte is, e))

      pub looked-next : (get_or bytes i 0 ≡ byte → ⊥) → Looked (i + 1)
      unfolding before
      looked-next other =
          let rest = length (before byte (drop (suc i) bytes)) in
          let e : i + suc rest ≡ suc i + rest = omega arith in
          record {
            within = omega arith;
            same = l.same ∙ rw (drop-cons bytes i 0 more, ne_eqb (get_or bytes i 0) byte other, add-one i) e;
          }

module _ (word line : List ℕ) (i : ℕ) where
  -- the word's bytes from place i on are those of the line
  abbrev pub Compared : Type 0
  Compared = begins word line ≡ begins (drop i word) (drop i line)

  pub compared-all : Compared → length word ≤ i → true ≡ begins word line
  unfolding begins
  compared-all c h = sym (c ∙ rw (drop_of_length-le word h))

  module _ (c : Compared) (more : i < length word) where
    pub compared-ended : length line ≤ i → false ≡ begins word line
    unfolding begins
    compared-ended h = sym (c ∙ rw (drop-cons word i 0 more, drop_of_length-le line h))

    module _ (inside : i < length line) where
      pub compared-other : (get_or line i 0 ≡ get_or word i 0 → ⊥) → false ≡ begins word line
      unfolding begins
      compared-other other =
          sym (c ∙ rw (drop-cons word i 0 more, drop-cons line i 0 inside, ne_eqb (get_or word i 0) (get_or line i 0) (λ e. other (sym e))))

      pub compared-next : get_or line i 0 ≡ get_or word i 0 → begins word line ≡ begins (drop (i + 1) word) (drop (i + 1) line)
      unfolding begins
      compared-next same =
          c ∙ rw (drop-cons word i 0 more, drop-cons line i 0 inside, eq-eqb (get_or word i 0) (get_or line i 0) (sym same), add-one i)
