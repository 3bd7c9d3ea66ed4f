-- Writing a number: the three answers, and the number of bytes. Assumes nothing.
use Prim.Native.Nat.{ℕ, suc, ◌≤◌, ◌<◌}
use Rattle.std.specs.Prelude.{Result, Ok, Err}
use native.Mathlib.Omega.{arith}
use native.Mathlib.Nat.{le_refl}
use mathlib.Core.Path.{◌≡◌, refl, ap}
use mathlib.Core.List.{List}
use lib.ListN.{length}
use borrow.Author.Tests.{le-leb, lt-leb}
use Rattle.lists.specs.Lists.{over_start}
use Rattle.refusal.specs.declared.Refusal.TheVariants.{OutsideLimits, ShortOutput}
use Rattle.refusal.specs.declared.Refusal.{Refusal}
use Rattle.refusal.specs.Checked.{accepted, refused, written}
use Rattle.number.specs.Numbers.{largest_number, number_bytes, write_number}
use Rattle.number.specs.Answers.{number_written}
use Rattle.number.proofs.Groups.{capacity, groups-length-le, groups-length-gt, groups-length-le-more}

module _ (room v : ℕ) where
  -- refusal 4 on writing
  pub write_number-large : largest_number < v → write_number room v ≡ refused (OutsideLimits 0)
  unfolding write_number
  write_number-large large = rw (lt-leb v largest_number large)

  -- refusal 11
  pub write_number-short : v ≤ largest_number → room < length (number_bytes v)
      → write_number room v ≡ refused (ShortOutput (length (number_bytes v)))
  unfolding write_number
  write_number-short fits short = rw (le-leb v largest_number fits, lt-leb (length (number_bytes v)) room short)

  pub write_number-accepted : v ≤ largest_number → length (number_bytes v) ≤ room
      → write_number room v ≡ accepted (number_bytes v)
  unfolding write_number
  write_number-accepted fits enough = rw (le-leb v largest_number fits, le-leb (length (number_bytes v)) room enough)

-- What a writing answers and leaves, over the slice before it.
abbrev pub Answers : List ℕ → ℕ → Result ℕ Refusal → List ℕ → Type 0
Answers out₀ v answer out =
    (answer ≡ number_written (write_number (length out₀) v)) × (out ≡ written (write_number (length out₀) v) out₀)

module _ (out₀ : List ℕ) (v : ℕ) where
  pub answers-large : largest_number < v → Answers out₀ v (Err (OutsideLimits 0)) out₀
  answers-large large = rw (write_number-large (length out₀) v large) (refl, refl)

  module _ (need : ℕ) (is : need ≡ length (number_bytes v)) (fits : v ≤ largest_number) where
    pub answers-short : length out₀ < need → Answers out₀ v (Err (ShortOutput need)) out₀
    answers-short short =
        rw (write_number-short (length out₀) v fits (rw is at short)) (ap (λ (n : ℕ). Err (ShortOutput n)) is, refl)

    pub answers-written : (out : List ℕ) → need ≤ length out₀
        → out ≡ over_start (number_bytes v) out₀ → Answers out₀ v (Ok need) out
    answers-written out enough e = rw (write_number-accepted (length out₀) v fits (rw is at enough)) (ap Ok is, e)

-- the number of bytes: n groups hold fewer than v, n + 1 hold v
pub number_bytes-length : (n v : ℕ) → n ≤ 3 → capacity n ≤ v → v < capacity (suc n) → length (number_bytes v) ≡ suc n
unfolding number_bytes
number_bytes-length n v le low high =
    omega (arith, groups-length-gt n 3 v low le, groups-length-le n 3 v high le)

pub number_bytes-length-four : (v : ℕ) → 2_097_152 ≤ v → length (number_bytes v) ≡ 4
unfolding number_bytes
number_bytes-length-four v low = omega (arith, groups-length-gt 3 3 v low (le_refl 3), groups-length-le-more 3 v)
