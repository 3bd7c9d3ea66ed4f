-- Numbers as they are printed are read as they were. Assumes nothing.
use Prim.Native.Nat.{ℕ, zero, suc, ◌+◌, ◌*◌, ◌-◌, ◌/◌, ◌%◌, ◌≤◌, ◌<◌}
use native.Mathlib.Omega.{arith}
use mathlib.Core.Path.{◌≡◌, refl, sym, ◌∙◌, ap}
use mathlib.Core.Bool.{true, false}
use mathlib.Core.List.{List, [], ◌∷◌, ◌++◌, append_assoc, append-nil}
use mathlib.Core.Option.{some}
use lib.ListN.{length, length-append}
use lib.Dec.{ltb}
use borrow.Author.Tests.{ltb-true, ltb-false, lt-ltb, le-leb, ne_eqb}
use Rattle.lists.specs.Lists.{All}
use Rattle.lists.proofs.Alls.{all_append}
use Rattle.lists.proofs.Tests.{cond-elim}
use Rattle.report.specs.Programs.{digits, decimal, rest}
use Rattle.table.specs.Lines.{is_digit, is_blank, ended, read_numbers}
use Rattle.table.proofs.Lines.{Inside}

-- how many numbers so many digits hold
unfoldable pub tens : ℕ → ℕ
tens zero = 1
tens (suc n) = 10 * tens n

-- a printed digit
module _ (digit : ℕ) (small : digit < 10) where
  digit-blank : is_blank (48 + digit) ≡ false
  digit-blank =
      rw (ne_eqb (48 + digit) 32 (λ e. omega arith), ne_eqb (48 + digit) 9 (λ e. omega arith), ne_eqb (48 + digit) 13 (λ e. omega arith))

  digit-digit : is_digit (48 + digit) ≡ true
  digit-digit = rw (le-leb 48 (48 + digit) (omega arith), le-leb (48 + digit) 57 (omega arith))

  pub digit-inside : Inside (48 + digit)
  digit-inside = (ne_eqb (48 + digit) 10 (λ e. omega arith), ne_eqb (48 + digit) 35 (λ e. omega arith))

  -- after fewer than eight digits it is read as the next
  pub read-digit : (line : List ℕ) (count value : ℕ) (numbers : List ℕ) → count < 8 → length numbers < 255
      → read_numbers ((48 + digit) ∷ line) count value numbers ≡ read_numbers line (suc count) (value * 10 + digit) numbers
  unfolding read_numbers
  read-digit line count value numbers few room =
      let e : 48 + digit - 48 ≡ digit = omega arith in
      rw (digit-blank, digit-digit, lt-ltb count 8 few, lt-ltb (length numbers) 255 room, e)

-- what reading a number's digits gives
record DigitsRead (text line : List ℕ) (most value : ℕ) (numbers : List ℕ) : Type 0 where
  pub some-digit : 0 < length text
  pub few : length text ≤ most
  pub are-read : read_numbers (text ++ line) 0 0 numbers ≡ read_numbers line (length text) value numbers

-- a number of up to eight digits
module _ (numbers : List ℕ) (room : length numbers < 255) where
  read_small : (line : List ℕ) (n most : ℕ) → n < 10 → 0 < most → DigitsRead ((48 + n) ∷ []) line most n numbers
  read_small line n most h p =
      record {
        some-digit = omega arith;
        few = omega arith;
        are-read = let e : 0 * 10 + n ≡ n = omega arith in rw (read-digit n h line 0 0 numbers (omega arith) room, e);
      }

  read-digits : (more n k : ℕ) (line : List ℕ) → n < tens (suc k) → k ≤ more → k ≤ 7 → DigitsRead (digits more n) line (suc k) n numbers
  unfolding digits tens
  read-digits zero n k line h enough few =
      let small : n < 10 = (let z : k ≡ 0 = omega arith in rw z at h) in
      let e : n % 10 ≡ n = omega arith in
      rw e (read_small line n (suc k) small (omega arith))
  read-digits (suc more) n k line h enough few =
      cond-elim (λ d. DigitsRead d line (suc k) n numbers) (ltb n 10)
      (λ e. read_small line n (suc k) (ltb-true n 10 e) (omega arith))
      (λ e. large (λ k' h' enough' few'. read-digits more (n / 10) k' ((48 + n % 10) ∷ line) h' enough' few') k h enough few (ltb-false n 10 e))
    where
      joined : (l : List ℕ)
          → read_numbers ((l ++ ((48 + n % 10) ∷ [])) ++ line) 0 0 numbers ≡ read_numbers (l ++ ((48 + n % 10) ∷ line)) 0 0 numbers
      joined l = rw (append_assoc l ((48 + n % 10) ∷ []) line)

      large : ((k : ℕ) → n / 10 < tens (suc k) → k ≤ more → k ≤ 7
          → DigitsRead (digits more (n / 10)) ((48 + n % 10) ∷ line) (suc k) (n / 10) numbers)
          → (k : ℕ) → n < tens (suc k) → k ≤ suc more → k ≤ 7 → 10 ≤ n
          → DigitsRead (digits more (n / 10) ++ ((48 + n % 10) ∷ [])) line (suc k) n numbers
      large ih zero h enough few big = absurd (omega arith)
      large ih (suc k) h enough few big =
          let tenth = ih k (omega arith) (omega arith) (omega arith) in
          let len = length-append (digits more (n / 10)) ((48 + n % 10) ∷ []) in
          let whole : n / 10 * 10 + n % 10 ≡ n = omega arith in
          let one : length (digits more (n / 10)) + 1 ≡ suc (length (digits more (n / 10))) = omega arith in
          record {
            some-digit = omega (arith, len);
            few = omega (arith, len, tenth.few);
            are-read =
                joined (digits more (n / 10))
                ∙ tenth.are-read
                ∙ read-digit (n % 10) (omega arith) line (length (digits more (n / 10))) (n / 10) numbers (omega (arith, tenth.few)) room
                ∙ rw (len, one, whole);
          }

-- so many digits suffice
pub decimal-short : (n k : ℕ) → n < tens (suc k) → k ≤ 7 → length (decimal n) ≤ suc k
unfolding decimal
decimal-short n k h few = (read-digits [] (omega arith) 19 n k [] h (omega arith) few).few

-- each number with a space before it
unfoldable pub spaced : List ℕ → List ℕ
spaced [] = []
spaced (n ∷ numbers) = 32 ∷ (decimal n ++ spaced numbers)

pub rest-spaced : (numbers : List ℕ) → rest numbers ≡ spaced numbers ++ (10 ∷ [])
unfolding rest spaced
rest-spaced [] = refl
rest-spaced (n ∷ numbers) = rw (rest-spaced numbers, append_assoc (decimal n) (spaced numbers) (10 ∷ []))

digits-inside : (more n : ℕ) → All Inside (digits more n)
unfolding digits
digits-inside zero n = (digit-inside (n % 10) (omega arith), tt)
digits-inside (suc more) n =
    cond-elim (All Inside) (ltb n 10)
    (λ e. (digit-inside n (ltb-true n 10 e), tt))
    (λ e. all_append Inside (digits more (n / 10)) _ (digits-inside more (n / 10)) (digit-inside (n % 10) (omega arith), tt))

pub spaced-inside : (numbers : List ℕ) → All Inside (spaced numbers)
unfolding spaced decimal
spaced-inside [] = tt
spaced-inside (n ∷ numbers) = ((refl, refl), all_append Inside (decimal n) _ (digits-inside 19 n) (spaced-inside numbers))

-- below 100,000,000
abbrev pub Short : ℕ → Type 0
Short n = n < 100_000_000

pub ended_some : (count value : ℕ) (numbers : List ℕ) → 0 < count → ended count value numbers ≡ numbers ++ (value ∷ [])
ended_some zero value numbers h = absurd (omega arith)
ended_some (suc count) value numbers h = refl

-- The numbers are read as they were, after those before them.
pub read-spaced : (ns : List ℕ) (count value : ℕ) (numbers : List ℕ) → All Short ns
    → length (ended count value numbers) + length ns ≤ 255
    → read_numbers (spaced ns) count value numbers ≡ some (ended count value numbers ++ ns)
unfolding spaced decimal read_numbers tens
read-spaced [] count value numbers small room = ap some (sym (append-nil (ended count value numbers)))
read-spaced (n ∷ ns) count value numbers small room =
    let so_far = ended count value numbers in
    let number = read-digits so_far (omega arith) 19 n 7 (spaced ns) small.0 (omega arith) (omega arith) in
    let are = ended_some (length (digits 19 n)) n so_far number.some-digit in
    let more = read-spaced ns (length (digits 19 n)) n so_far small.1 (rw are (omega (arith, length-append so_far (n ∷ [])))) in
    number.are-read ∙ more ∙ rw are (ap some (append_assoc so_far (n ∷ []) ns))
