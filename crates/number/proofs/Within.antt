-- A number within limits: what `read_within` gives in each case, and what the answers of the code say. Assumes nothing.
use Prim.Native.Nat.{ℕ, ◌≤◌, ◌<◌}
use Rattle.std.specs.Prelude.{Result, Ok, Err}
use mathlib.Core.Path.{◌≡◌, refl, sym, ◌∙◌, ap}
use mathlib.Core.Bool.{Bool, true, false, ◌&&◌, and-eq-true_iff}
use mathlib.Core.List.{List}
use lib.Dec.{leb}
use borrow.Author.Tests.{le-leb, lt-leb, leb-true}
use Rattle.refusal.specs.declared.Refusal.{Refusal}
use Rattle.refusal.specs.declared.Refusal.TheVariants.{OutsideLimits}
use Rattle.refusal.specs.Checked.{Checked, accepted, refused, ◌>>=◌, require}
use Rattle.number.specs.Numbers.{read_number, read_within}
use Rattle.number.specs.declared.Reading.{Reading}
use Rattle.number.specs.Answers.{number_read, refusal_of}
use Rattle.refusal.proofs.Checked.{accepted-injective, refused-not-accepted}

-- the code's answer says what was read
pub number_read-value : (r : Checked Reading) {n : Reading} → Ok n ≡ number_read r → r ≡ accepted n
number_read-value (accepted n) e = cc
number_read-value (refused why) e = cc

pub number_read-refused : (r : Checked Reading) {why : Refusal} → Err why ≡ number_read r → r ≡ refused why
number_read-refused (accepted n) e = cc
number_read-refused (refused why) e = cc

-- what a number that was read, and one that was not, say of the check
pub was_read : (m : Checked Reading) {read : Result Reading Refusal} {n : Reading} → read ≡ number_read m → read ≡ Ok n
    → m ≡ accepted n
was_read m is e = number_read-value m (sym e ∙ is)

pub was-refused : (m : Checked Reading) {read : Result Reading Refusal} {why : Refusal} → read ≡ number_read m → read ≡ Err why
    → m ≡ refused why
was-refused m is w = number_read-refused m (sym w ∙ is)

module _ (lo hi : ℕ) (s : List ℕ) (at : ℕ) where
  pub read_within-refused : (why : Refusal) → read_number s at ≡ refused why → read_within lo hi s at ≡ refused why
  unfolding read_within
  read_within-refused why e = rw e

  pub read_within-below : {n : Reading} → read_number s at ≡ accepted n → n.value < lo
      → read_within lo hi s at ≡ refused (OutsideLimits at)
  unfolding read_within
  read_within-below {n} e below = rw (e, lt-leb lo n.value below)

  pub read_within-above : {n : Reading} → read_number s at ≡ accepted n → lo ≤ n.value → hi < n.value
      → read_within lo hi s at ≡ refused (OutsideLimits at)
  unfolding read_within
  read_within-above {n} e low above = rw (e, le-leb lo n.value low, lt-leb n.value hi above)

  pub read_within-accepted : {n : Reading} → read_number s at ≡ accepted n → lo ≤ n.value → n.value ≤ hi
      → read_within lo hi s at ≡ accepted n
  unfolding read_within
  read_within-accepted {n} e low high = rw (e, le-leb lo n.value low, le-leb n.value hi high)

  -- A number of a file's head that is accepted is read and within its limits.
  pub read-of-read_within : {n : Reading} → read_within lo hi s at ≡ accepted n
      → (read_number s at ≡ accepted n) × (lo ≤ n.value) × (n.value ≤ hi)
  unfolding read_within
  read-of-read_within {n} e = go (read_number s at) refl e
    where
      test : (m : Reading) (b : Bool) → (leb lo m.value && leb m.value hi) ≡ b
          → (require b (OutsideLimits at) >>= (λ u. accepted m)) ≡ accepted n
          → read_number s at ≡ accepted m → (read_number s at ≡ accepted n) × (lo ≤ n.value) × (n.value ≤ hi)
      test m true t e r =
          let both = (and-eq-true_iff (leb lo m.value) (leb m.value hi)).0 t in
          rw (← accepted-injective e) (r, leb-true lo m.value both.0, leb-true m.value hi both.1)
      test m false t e r = absurd (refused-not-accepted e)

      go : (r : Checked Reading) → read_number s at ≡ r
          → (r >>= λ number. require (leb lo number.value && leb number.value hi) (OutsideLimits at) >>= (λ u. accepted number)) ≡ accepted n
          → (read_number s at ≡ accepted n) × (lo ≤ n.value) × (n.value ≤ hi)
      go (accepted m) r e = test m (leb lo m.value && leb m.value hi) refl e r
      go (refused why) r e = absurd (refused-not-accepted e)

  -- The answers of `read_within`, over what `read_number` answered.
  module _ (first : Result Reading Refusal) (is : first ≡ number_read (read_number s at)) where
    pub answer-refused : {why : Refusal} → first ≡ Err why → first ≡ number_read (read_within lo hi s at)
    answer-refused {why} e =
        e ∙ sym (ap number_read (read_within-refused why (number_read-refused (read_number s at) (sym e ∙ is))))

    module _ {n : Reading} (e : first ≡ Ok n) where
      read : read_number s at ≡ accepted n
      read = number_read-value (read_number s at) (sym e ∙ is)

      pub answer-below : n.value < lo → Err (OutsideLimits at) ≡ number_read (read_within lo hi s at)
      answer-below below = sym (ap number_read (read_within-below read below))

      pub answer-above : lo ≤ n.value → hi < n.value → Err (OutsideLimits at) ≡ number_read (read_within lo hi s at)
      answer-above low above = sym (ap number_read (read_within-above read low above))

      pub answer-within : lo ≤ n.value → n.value ≤ hi → Ok n ≡ number_read (read_within lo hi s at)
      answer-within low high = sym (ap number_read (read_within-accepted read low high))
