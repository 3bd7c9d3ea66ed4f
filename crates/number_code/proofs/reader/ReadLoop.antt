-- The turns of the loop that reads a number: each way a turn ends, and that nothing wraps. Assumes nothing.
use Prim.Native.Nat.{ℕ, suc, ◌+◌, ◌*◌, ◌-◌, ◌≤◌, ◌<◌}
use Rattle.std.specs.Prelude.{Ok, Err}
use native.Mathlib.Omega.{arith}
use native.Mathlib.Nat.{mul-le-mul, mul-le-mul_left, le_refl}
use native.Mathlib.Numerals.{add-one}
use mathlib.Core.Path.{◌≡◌, refl, sym, ◌∙◌, ap}
use mathlib.Core.List.{List}
use lib.ListN.{length, get_or}
use Rattle.refusal.specs.declared.Refusal.TheVariants.{Ended, Malformed}
use Rattle.number.specs.Numbers.{read_groups, read_number}
use Rattle.number.specs.Answers.{number_read}
use Rattle.number.proofs.Groups.{capacity, capacity-pos}
use Rattle.number.proofs.ReadGroups.{read_groups-ends, read_groups-follows, read_groups-last}

-- Before each turn: what is left to read answers for the whole; the sum is below the weight; the groups that may come fit.
pub record ReadTurn (s : List ℕ) (start left at weight sum : ℕ) : Type 0 where
  pub same : read_number s start ≡ read_groups left s start at weight sum
  pub sum_lt : sum < weight
  pub fits : weight * capacity left ≤ 268_435_456

-- What a turn computes fits: the weight is at most that of the fourth group, and so is what a byte adds, with its top bit
-- or without.
pub record ReadFits (weight byte : ℕ) : Type 0 where
  pub weight-small : weight ≤ 2_097_152
  pub byte_small : weight * byte ≤ 534_773_760
  pub bits_small : weight * (byte - 128) ≤ 534_773_760

pub read-holds : (s : List ℕ) (start : ℕ) → ReadTurn s start 4 start 1 0
unfolding read_number
read-holds s start = record { same = refl; sum_lt = le_refl 1; fits = le_refl 268_435_456 }

module _ {s : List ℕ} {start left at weight sum : ℕ} (turn : ReadTurn s start left at weight sum) where
  -- no group left: four with the top bit set
  pub read_none : left ≤ 0 → Err (Malformed start) ≡ number_read (read_number s start)
  unfolding read_groups
  read_none h =
      let none : left ≡ 0 = omega arith in
      sym (ap number_read (turn.same ∙ ap (λ (l : ℕ). read_groups l s start at weight sum) none))

  module _ (more : 0 < left) where
    one-more : left ≡ suc (left - 1)
    one-more = omega arith

    same_more : read_number s start ≡ read_groups (suc (left - 1)) s start at weight sum
    same_more = turn.same ∙ ap (λ (l : ℕ). read_groups l s start at weight sum) one-more

    pub read-ends : length s ≤ at → Err (Ended (length s)) ≡ number_read (read_number s start)
    read-ends ends = sym (ap number_read (same_more ∙ read_groups-ends (left - 1) s start at weight sum ends))

    pub read-last : at < length s → get_or s at 0 < 128
        → Ok (record { value = sum + weight * get_or s at 0; next = at + 1 }) ≡ number_read (read_number s start)
    read-last inside small =
        rw add-one (sym (ap number_read (same_more ∙ read_groups-last (left - 1) s start at weight sum inside small)))

    -- the weight is at most that of the fourth group
    weight-le : weight ≤ 2_097_152
    weight-le =
        let one = mul-le-mul_left weight (mul-le-mul_left 128 (capacity-pos (left - 1))) in
        let fit : weight * capacity (suc (left - 1)) ≤ 268_435_456 = rw one-more at turn.fits in
        omega arith

    pub read_fits : (byte : ℕ) → byte < 256 → ReadFits weight byte
    read_fits byte h =
        record {
          weight-small = weight-le;
          byte_small = mul-le-mul {n₂ = 2_097_152} {m₂ = 255} weight-le (omega arith);
          bits_small = mul-le-mul {n₂ = 2_097_152} {m₂ = 255} weight-le (omega arith);
        }

    pub read_again : at < length s → 128 ≤ get_or s at 0 → get_or s at 0 < 256
        → ReadTurn s start (left - 1) (at + 1) (weight * 128) (sum + weight * (get_or s at 0 - 128))
    read_again inside follows byte =
        let bits : weight * (get_or s at 0 - 128) ≤ weight * 127 = mul-le-mul_left weight (omega arith) in
        let fit : weight * capacity (suc (left - 1)) ≤ 268_435_456 = rw one-more at turn.fits in
        record {
          same = same_more
              ∙ rw add-one (read_groups-follows (left - 1) s start at weight sum inside follows);
          sum_lt = omega (arith, turn.sum_lt);
          fits = omega arith;
        }
