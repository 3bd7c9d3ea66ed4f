-- The numbers that a program takes: the turns of the loop that reads them, and where the file begins. Assumes nothing.
use Prim.Native.Nat.{ℕ, zero, suc, ◌+◌, ◌*◌, ◌-◌, ◌≤◌, ◌<◌}
use native.Mathlib.Omega.{arith}
use native.Mathlib.Numerals.{add-one}
use mathlib.Core.Path.{◌≡◌, refl, sym, ◌∙◌, ap}
use mathlib.Core.Bool.{Bool, true, false, cond}
use mathlib.Core.List.{List, [], ◌∷◌}
use lib.ListN.{length, set, take, replicate}
use lib.Dec.{eqb}
use Rattle.refusal.specs.declared.Refusal.{Refusal}
use Rattle.refusal.specs.Checked.{Checked, accepted, refused}
use Rattle.number.specs.declared.Reading.{Reading}
use Rattle.number.specs.Numbers.{read_number}
use Rattle.number.proofs.Laws.{read_next, read-local}
use Rattle.text.specs.declared.GivenEnd.{GivenEnd}
use Rattle.text.specs.declared.GivenEnd.TheVariants.{File, Unread, Extra}
use Rattle.text.specs.declared.Given.{Given}
use Rattle.text.specs.Decimal.{read_decimal}
use Rattle.text.specs.Numbers.{read_given, end_given, on_read, take_numbers, given}

-- which of the two ways, by the arguments' length
module _ (input : List ℕ) (at : ℕ) where
  pub given-none : (arguments : List ℕ) → length arguments ≡ 0 → read_given arguments input at ≡ read_number input at
  given-none [] e = refl
  given-none (byte ∷ arguments) e = absurd (omega arith)

  pub given-some : (arguments : List ℕ) → (length arguments ≡ 0 → ⊥) → read_given arguments input at ≡ read_decimal arguments at
  given-some [] h = absurd (h refl)
  given-some (byte ∷ arguments) h = refl

module _ (at : ℕ) where
  pub end_none : (arguments : List ℕ) → length arguments ≡ 0 → end_given arguments at ≡ File at
  end_none [] e = refl
  end_none (byte ∷ arguments) e = absurd (omega arith)

  pub end-some : (arguments : List ℕ) → (length arguments ≡ 0 → ⊥)
      → end_given arguments at ≡ cond (eqb at (length arguments)) (File 0) Extra
  end-some [] h = absurd (h refl)
  end-some (byte ∷ arguments) h = refl

-- Before each turn: the numbers that are left answer for the whole.
pub record GivenTurn (count : ℕ) (arguments input : List ℕ) (i at : ℕ) (values : List ℕ) : Type 0 where
  pub within : i ≤ count
  pub same : given count arguments input ≡ take_numbers arguments input (count - i) i at values

pub given_holds : (count : ℕ) (arguments input : List ℕ) → GivenTurn count arguments input 0 0 (replicate 8 0)
unfolding given
given_holds count arguments input = let all : count - 0 ≡ count = omega arith in record { within = omega arith; same = rw all }

module _ {count : ℕ} {arguments input : List ℕ} {i at : ℕ} {values : List ℕ}
    (turn : GivenTurn count arguments input i at values) where
  pub given-all : count ≤ i → {end : GivenEnd} → end ≡ end_given arguments at
      → record { end = end; values = values } ≡ given count arguments input
  unfolding take_numbers
  given-all h is =
      let none : count - i ≡ 0 = omega arith in
      sym (turn.same ∙ ap (λ (l : ℕ). take_numbers arguments input l i at values) none ∙ rw is)

  module _ (more : i < count) where
    same_more : given count arguments input ≡ take_numbers arguments input (suc (count - (i + 1))) i at values
    same_more =
        let one : count - i ≡ suc (count - (i + 1)) = omega arith in
        turn.same ∙ ap (λ (l : ℕ). take_numbers arguments input l i at values) one

    pub given-unread : {why : Refusal} → read_given arguments input at ≡ refused why
        → record { end = Unread i; values = values } ≡ given count arguments input
    unfolding take_numbers
    given-unread e = sym (same_more ∙ rw e)

    pub given-again : {n : Reading} → read_given arguments input at ≡ accepted n
        → GivenTurn count arguments input (i + 1) n.next (set values i n.value)
    unfolding take_numbers
    given-again e = record { within = omega arith; same = same_more ∙ rw (e, add-one i) }

-- what holds of what follows a number that was read, and of what stands for one that was not
on_read-elim : (P : Given → Type 0) (r : Checked Reading) (f : Reading → Given) (none : Given)
    → ((n : Reading) → r ≡ accepted n → P (f n)) → P none → P (on_read r f none)
on_read-elim P (accepted n) f none some empty = some n refl
on_read-elim P (refused why) f none some empty = empty

-- the same after a number where it was read
on_read-congr : (r : Checked Reading) (f g : Reading → Given) (none : Given) → ((n : Reading) → r ≡ accepted n → f n ≡ g n)
    → on_read r f none ≡ on_read r g none
on_read-congr (accepted n) f g none same = same n refl
on_read-congr (refused why) f g none same = refl

-- the numbers end in a file at this place
abbrev Ends : (place : ℕ) → Given → Type 0
Ends place g = g.end ≡ File place

unread-ends : {place i : ℕ} → Unread i ≡ File place → ⊥
unread-ends e = let z : ◌≡◌ {A = ℕ} 0 1 = cc in omega arith

-- of arguments the file is the whole input
typed-place : (byte : ℕ) (arguments input : List ℕ) (place left i at : ℕ) (values : List ℕ)
    → Ends place (take_numbers (byte ∷ arguments) input left i at values) → place ≡ 0
unfolding take_numbers
typed-place byte arguments input place zero i at values = go (eqb at (length (byte ∷ arguments)))
  where
    go : (b : Bool) → cond b (File 0) Extra ≡ File place → place ≡ 0
    go true e = cc
    go false e = absurd (let z : ◌≡◌ {A = ℕ} 0 1 = cc in omega arith)
typed-place byte arguments input place (suc left) i at values =
    on_read-elim (λ g. Ends place g → place ≡ 0) (read_decimal (byte ∷ arguments) at) _ (record { end = Unread i; values = values })
    (λ n r. typed-place byte arguments input place left (suc i) n.next (set values i n.value))
    (λ e. absurd (unread-ends e))

-- of numbers in the file's own form it begins after them, four bytes each at most
read-place : (input : List ℕ) (place left i at : ℕ) (values : List ℕ) → at ≤ length input
    → Ends place (take_numbers [] input left i at values) → (place ≤ at + 4 * left) × (place ≤ length input)
unfolding take_numbers
read-place input place zero i at values h = λ e. let same : at ≡ place = cc in (omega arith, omega arith)
read-place input place (suc left) i at values h =
    on_read-elim (λ g. Ends place g → (place ≤ at + 4 * suc left) × (place ≤ length input)) (read_number input at) _
    (record { end = Unread i; values = values })
    (λ n r e. let ends = read_next input at r in
    let later = read-place input place left (suc i) n.next (set values i n.value) ends.2 e in
    (omega (arith, later.0, ends.0), later.1))
    (λ e. absurd (unread-ends e))

-- The file's place is within the input.
pub given-place : (count : ℕ) (arguments input : List ℕ) {place : ℕ} → (given count arguments input).end ≡ File place
    → (place ≤ 4 * count) × (place ≤ length input)
unfolding given
given-place count [] input e = let h = read-place input _ count 0 0 _ (omega arith) e in (omega (arith, h.0), h.1)
given-place count (byte ∷ arguments) input e =
    let none = typed-place byte arguments input _ count 0 0 _ e in (omega arith, omega arith)

-- four bytes a number are enough of the input, and with arguments none
typed-local : (byte : ℕ) (arguments input other : List ℕ) (left i at : ℕ) (values : List ℕ)
    → take_numbers (byte ∷ arguments) input left i at values ≡ take_numbers (byte ∷ arguments) other left i at values
unfolding take_numbers
typed-local byte arguments input other zero i at values = refl
typed-local byte arguments input other (suc left) i at values =
    on_read-congr (read_decimal (byte ∷ arguments) at) _ _ (record { end = Unread i; values = values }) λ n e.
    typed-local byte arguments input other left (suc i) n.next (set values i n.value)

read-given-local : (m : ℕ) (input : List ℕ) (left i at : ℕ) (values : List ℕ) → at + 4 * left ≤ m → m ≤ length input
    → take_numbers [] (take m input) left i at values ≡ take_numbers [] input left i at values
unfolding take_numbers
read-given-local m input zero i at values h long = refl
read-given-local m input (suc left) i at values h long =
    rw (read-local m input at (omega arith) long)
    (on_read-congr (read_number input at) _ _ (record { end = Unread i; values = values }) λ n e.
    read-given-local m input left (suc i) n.next (set values i n.value) (omega (arith, (read_next input at e).0)) long)

pub given-take : (m count : ℕ) (arguments input : List ℕ) → 4 * count ≤ m → m ≤ length input
    → given count arguments (take m input) ≡ given count arguments input
unfolding given
given-take m count [] input h long = read-given-local m input count 0 0 _ (omega arith) long
given-take m count (byte ∷ arguments) input h long = typed-local byte arguments (take m input) input count 0 0 _
