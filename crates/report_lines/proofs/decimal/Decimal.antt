-- Numbers in decimal: one digit, or the digits of a tenth and then the last digit; 20 at most. Assumes nothing.
use Prim.Native.Nat.{ℕ, zero, suc, ◌+◌, ◌*◌, ◌/◌, ◌%◌, ◌≤◌, ◌<◌}
use native.Mathlib.Omega.{arith}
use native.Mathlib.Nat.{le_refl}
use mathlib.Core.Path.{◌≡◌, refl, sym, ◌∙◌}
use mathlib.Core.List.{List, [], ◌∷◌, ◌++◌}
use lib.ListN.{length, set, length-append}
use lib.Dec.{ltb}
use borrow.Author.Tests.{ltb-true, ltb-false, lt-ltb, le-ltb}
use Rattle.lists.proofs.Tests.{cond-elim}
use Rattle.report.specs.Programs.{digits, decimal}
use Rattle.lists.proofs.Stores.{sets-append}
use Rattle.report_lines.specs.Put.{Put}

-- how many numbers n digits hold
abbrev tens : ℕ → ℕ
tens zero = 1
tens (suc n) = 10 * tens n

digits-small : (more n : ℕ) → n < 10 → digits more n ≡ (48 + n) ∷ []
unfolding digits
digits-small zero n h = let e : n % 10 ≡ n = omega arith in rw e
digits-small (suc more) n h = rw (lt-ltb n 10 h)

digits-large : (more n : ℕ) → 10 ≤ n → digits (suc more) n ≡ digits more (n / 10) ++ ((48 + n % 10) ∷ [])
unfolding digits
digits-large more n h = rw (le-ltb n 10 h)

-- what holds of small and of large numbers' digits holds
digits-elim : (P : List ℕ → Type 0) (more n : ℕ) → (n < 10 → P ((48 + n) ∷ []))
    → (10 ≤ n → P (digits more (n / 10) ++ ((48 + n % 10) ∷ []))) → P (digits (suc more) n)
unfolding digits
digits-elim P more n small large =
    cond-elim P (ltb n 10) (λ e. small (ltb-true n 10 e)) (λ e. large (ltb-false n 10 e))

-- room for one digit more changes nothing where the digits suffice
digits_more : (more n : ℕ) → n < tens (suc more) → digits (suc more) n ≡ digits more n
digits_more zero n h = let small : n < 10 = omega arith in digits-small 1 n small ∙ sym (digits-small 0 n small)
digits_more (suc more) n h =
    digits-elim (λ d. d ≡ digits (suc more) n) (suc more) n
    (λ small. sym (digits-small (suc more) n small))
    (λ large. rw (digits-large more n large, digits_more more (n / 10) (omega arith)))

digits-length-le : (more n : ℕ) → length (digits more n) ≤ suc more
unfolding digits
digits-length-le zero n = le_refl 1
digits-length-le (suc more) n =
    digits-elim (λ d. length d ≤ suc (suc more)) more n
    (λ small. omega arith)
    (λ large. rw length-append (omega (arith, digits-length-le more (n / 10))))

-- a number below 10 is one digit
pub decimal-small : (n : ℕ) → n < 10 → decimal n ≡ (48 + n) ∷ []
unfolding decimal
decimal-small n h = digits-small 19 n h

-- a larger one is a tenth of it, and its last digit
decimal-large : (n : ℕ) → 10 ≤ n → n < 18_446_744_073_709_551_616
    → decimal n ≡ decimal (n / 10) ++ ((48 + n % 10) ∷ [])
unfolding decimal
decimal-large n h fits = rw (digits-large 18 n h, digits_more 18 (n / 10) (omega arith))

-- 20 digits suffice
pub decimal-length-le : (n : ℕ) → length (decimal n) ≤ 20
unfolding decimal
decimal-length-le n = digits-length-le 19 n

pub decimal-length-large : (n : ℕ) → 10 ≤ n → n < 18_446_744_073_709_551_616
    → length (decimal n) ≡ length (decimal (n / 10)) + 1
decimal-length-large n h fits = rw (decimal-large n h fits) (length-append (decimal (n / 10)) _)

module _ (before : List ℕ) (at n : ℕ) where
  pub put_small : n < 10 → Put (decimal n) before at (at + 1) (set before at (48 + n))
  put_small h = rw (decimal-small n h) (record { ends = refl; stored = refl })

  pub put-large : (last : ℕ) (after : List ℕ) → 10 ≤ n → n < 18_446_744_073_709_551_616
      → Put (decimal (n / 10)) before at last after → Put (decimal n) before at (last + 1) (set after last (48 + n % 10))
  put-large last after h fits p =
      record {
        ends = omega (arith, decimal-length-large n h fits, p.ends);
        stored =
            rw (p.ends, p.stored, decimal-large n h fits, sets-append before at (decimal (n / 10)) ((48 + n % 10) ∷ []));
      }
