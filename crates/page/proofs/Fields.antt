-- A field by the digits of its number: its four characters, and reading them back. Assumes nothing.
use Prim.Native.Nat.{ℕ, zero, suc, ◌+◌, ◌*◌, ◌-◌, ◌/◌, ◌%◌, ◌≤◌, ◌<◌}
use native.Mathlib.Omega.{arith}
use mathlib.Core.Path.{◌≡◌, refl}
use mathlib.Core.Bool.{Bool, true, false}
use mathlib.Core.List.{List, [], ◌∷◌, ◌++◌}
use mathlib.Core.Option.{none, some}
use lib.ListN.{length}
use lib.Dec.{ltb}
use borrow.Author.Tests.{le-leb, ltb-true, ltb-false, lt-ltb, le-ltb, ne_eqb}
use Rattle.lists.specs.Lists.{All}
use Rattle.report.specs.Programs.{digits, decimal}
use Rattle.page.specs.Field.{digit, blanks, right, field, read_digits, read_form, read_field}
use Rattle.page.specs.Asked.{lead}

digits-small : (more n : ℕ) → n < 10 → digits more n ≡ digit n ∷ []
unfolding digits
digits-small zero n h = let e : n % 10 ≡ n = omega arith in rw e
digits-small (suc more) n h = rw (lt-ltb n 10 h)

digits-large : (more n : ℕ) → 10 ≤ n → digits (suc more) n ≡ digits more (n / 10) ++ (digit (n % 10) ∷ [])
unfolding digits
digits-large more n h = rw (le-ltb n 10 h)

-- the decimal forms of up to four digits
module _ (v : ℕ) where
  decimal-one : v < 10 → decimal v ≡ digit v ∷ []
  unfolding decimal
  decimal-one h = digits-small 19 v h

  decimal-two : 10 ≤ v → v < 100 → decimal v ≡ digit (v / 10) ∷ digit (v % 10) ∷ []
  unfolding decimal
  decimal-two low high = rw (digits-large 18 v low, digits-small 18 (v / 10) (omega arith))

  decimal-three : 100 ≤ v → v < 1_000 → decimal v ≡ digit (v / 10 / 10) ∷ digit (v / 10 % 10) ∷ digit (v % 10) ∷ []
  unfolding decimal
  decimal-three low high =
      rw (digits-large 18 v (omega arith), digits-large 17 (v / 10) (omega arith), digits-small 17 (v / 10 / 10) (omega arith))

  decimal-four : 1_000 ≤ v → v < 10_000
      → decimal v ≡ digit (v / 10 / 10 / 10) ∷ digit (v / 10 / 10 % 10) ∷ digit (v / 10 % 10) ∷ digit (v % 10) ∷ []
  unfolding decimal
  decimal-four low high =
      rw (
        digits-large 18 v (omega arith),
        digits-large 17 (v / 10) (omega arith),
        digits-large 16 (v / 10 / 10) (omega arith),
        digits-small 16 (v / 10 / 10 / 10) (omega arith),
      )

  -- what holds of the four shapes of a field holds of the field
  pub field-elim : (P : List ℕ → Type 0) → v < 10_000
      → (v < 10 → P (32 ∷ 32 ∷ 32 ∷ digit v ∷ []))
      → (10 ≤ v → v < 100 → P (32 ∷ 32 ∷ digit (v / 10) ∷ digit (v % 10) ∷ []))
      → (100 ≤ v → v < 1_000 → P (32 ∷ digit (v / 10 / 10) ∷ digit (v / 10 % 10) ∷ digit (v % 10) ∷ []))
      → (1_000 ≤ v → P (digit (v / 10 / 10 / 10) ∷ digit (v / 10 / 10 % 10) ∷ digit (v / 10 % 10) ∷ digit (v % 10) ∷ []))
      → P (field v)
  unfolding field
  field-elim P most one two three four = go (ltb v 10) (ltb v 100) (ltb v 1_000) refl refl refl
    where
      go : (a b c : Bool) → ltb v 10 ≡ a → ltb v 100 ≡ b → ltb v 1_000 ≡ c → P (right 4 (decimal v))
      go true b c e f g = let h = ltb-true v 10 e in rw (decimal-one h) (one h)
      go false true c e f g =
          let l = ltb-false v 10 e in
          let h = ltb-true v 100 f in
          rw (decimal-two l h) (two l h)
      go false false true e f g =
          let l = ltb-false v 100 f in
          let h = ltb-true v 1_000 g in
          rw (decimal-three l h) (three l h)
      go false false false e f g =
          let l = ltb-false v 1_000 g in
          rw (decimal-four l most) (four l)

lead-none : (q : ℕ) → q ≡ 0 → lead q ≡ 32
lead-none q e = rw e

lead-some : (q d : ℕ) → 0 < q → q % 10 ≡ d → lead q ≡ digit d
lead-some q d positive e = rw (ne_eqb q 0 (λ z. omega arith), e)

-- a field's characters as the code finds them, from the tenths of the number
pub field-characters : (v : ℕ) → v < 10_000
    → field v ≡ lead (v / 10 / 10 / 10) ∷ lead (v / 10 / 10) ∷ lead (v / 10) ∷ digit (v % 10) ∷ []
field-characters v most =
    field-elim v (λ f. f ≡ lead (v / 10 / 10 / 10) ∷ lead (v / 10 / 10) ∷ lead (v / 10) ∷ digit (v % 10) ∷ []) most
    (λ h.
    let e : v % 10 ≡ v = omega arith in
    rw (lead-none (v / 10 / 10 / 10) (omega arith), lead-none (v / 10 / 10) (omega arith), lead-none (v / 10) (omega arith), e))
    (λ l h.
    rw (
      lead-none (v / 10 / 10 / 10) (omega arith),
      lead-none (v / 10 / 10) (omega arith),
      lead-some (v / 10) (v / 10) (omega arith) (omega arith),
    ))
    (λ l h.
    rw (
      lead-none (v / 10 / 10 / 10) (omega arith),
      lead-some (v / 10 / 10) (v / 10 / 10) (omega arith) (omega arith),
      lead-some (v / 10) (v / 10 % 10) (omega arith) refl,
    ))
    (λ l.
    rw (
      lead-some (v / 10 / 10 / 10) (v / 10 / 10 / 10) (omega arith) (omega arith),
      lead-some (v / 10 / 10) (v / 10 / 10 % 10) (omega arith) refl,
      lead-some (v / 10) (v / 10 % 10) (omega arith) refl,
    ))

pub length-field : (v : ℕ) → v < 10_000 → length (field v) ≡ 4
length-field v most = rw (field-characters v most)

-- characters that print
abbrev pub Prints : List ℕ → Type 0
Prints text = All (λ c. (32 ≤ c) × (c ≤ 126)) text

prints-digit : (d : ℕ) → d < 10 → (32 ≤ digit d) × (digit d ≤ 126)
prints-digit d h = (omega arith, omega arith)

abbrev prints-blank : (32 ≤ 32) × (32 ≤ 126)
prints-blank = (omega arith, omega arith)

pub prints-field : (v : ℕ) → v < 10_000 → Prints (field v)
prints-field v most =
    field-elim v Prints most
    (λ h. (prints-blank, (prints-blank, (prints-blank, (prints-digit v h, tt)))))
    (λ l h. (prints-blank, (prints-blank, (prints-digit (v / 10) (omega arith), (prints-digit (v % 10) (omega arith), tt)))))
    (λ l h. (
      prints-blank,
      (prints-digit (v / 10 / 10) (omega arith), (prints-digit (v / 10 % 10) (omega arith), (prints-digit (v % 10) (omega arith), tt))),
    ))
    (λ l. (
      prints-digit (v / 10 / 10 / 10) (omega arith),
      (prints-digit (v / 10 / 10 % 10) (omega arith), (prints-digit (v / 10 % 10) (omega arith), (prints-digit (v % 10) (omega arith), tt))),
    ))

-- reading one digit more
read-digit : (v d : ℕ) (text : List ℕ) → d < 10 → read_digits v (digit d ∷ text) ≡ read_digits (10 * v + d) text
unfolding read_digits
read-digit v d text h =
    let e : 10 * v + (48 + d - 48) ≡ 10 * v + d = omega arith in
    rw (le-leb 48 (48 + d) (omega arith), le-leb (48 + d) 57 (omega arith), e)

read_one : (d : ℕ) → d < 10 → read_field (digit d ∷ []) ≡ read_digits d []
unfolding read_field read_form
read_one d h =
    let e : 10 * 0 + d ≡ d = omega arith in
    rw (ne_eqb (48 + d) 32 (λ z. omega arith), read-digit 0 d [] h, e)

read_first : (d c : ℕ) (text : List ℕ) → 0 < d → d < 10 → read_field (digit d ∷ c ∷ text) ≡ read_digits d (c ∷ text)
unfolding read_field read_form
read_first d c text positive h =
    let e : 10 * 0 + d ≡ d = omega arith in
    rw (ne_eqb (48 + d) 32 (λ z. omega arith), ne_eqb (48 + d) 48 (λ z. omega arith), read-digit 0 d (c ∷ text) h, e)

read-end : (v : ℕ) → read_digits v [] ≡ some v
unfolding read_digits
read-end v = refl

-- "the characters of a field read back as the number"
pub read-field : (v : ℕ) → v < 10_000 → read_field (field v) ≡ some v
unfolding read_field
read-field v most =
    field-elim v (λ f. read_field f ≡ some v) most
    (λ h. rw (read_one v h) (read-end v))
    (λ l h.
    let e : 10 * (v / 10) + v % 10 ≡ v = omega arith in
    rw (read_first (v / 10) (digit (v % 10)) [] (omega arith) (omega arith), read-digit (v / 10) (v % 10) [] (omega arith), e) (read-end v))
    (λ l h.
    let e : 10 * (10 * (v / 10 / 10) + v / 10 % 10) + v % 10 ≡ v = omega arith in
    rw (
      read_first (v / 10 / 10) (digit (v / 10 % 10)) (digit (v % 10) ∷ []) (omega arith) (omega arith),
      read-digit (v / 10 / 10) (v / 10 % 10) (digit (v % 10) ∷ []) (omega arith),
      read-digit (10 * (v / 10 / 10) + v / 10 % 10) (v % 10) [] (omega arith),
      e,
    ) (read-end v))
    (λ l.
    let e : 10 * (10 * (10 * (v / 10 / 10 / 10) + v / 10 / 10 % 10) + v / 10 % 10) + v % 10 ≡ v = omega arith in
    rw (
      read_first (v / 10 / 10 / 10) (digit (v / 10 / 10 % 10)) (digit (v / 10 % 10) ∷ digit (v % 10) ∷ []) (omega arith) (omega arith),
      read-digit (v / 10 / 10 / 10) (v / 10 / 10 % 10) (digit (v / 10 % 10) ∷ digit (v % 10) ∷ []) (omega arith),
      read-digit (10 * (v / 10 / 10 / 10) + v / 10 / 10 % 10) (v / 10 % 10) (digit (v % 10) ∷ []) (omega arith),
      read-digit (10 * (10 * (v / 10 / 10 / 10) + v / 10 / 10 % 10) + v / 10 % 10) (v % 10) [] (omega arith),
      e,
    ) (read-end v))

-- a blank field has no number, and neither has one with a zero before its digits, or with blanks after them
pub read-others : (read_field (blanks 4) ≡ none) × (read_field (32 ∷ 32 ∷ 48 ∷ 53 ∷ []) ≡ none) × (read_field (53 ∷ 32 ∷ 32 ∷ 32 ∷ []) ≡ none)
unfolding read_field read_form read_digits
read-others = (refl, refl, refl)
