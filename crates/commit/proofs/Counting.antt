-- The counts, taken off what is left of b one after another. Assumes nothing.
use Prim.Native.Nat.{ℕ, suc, ◌+◌, ◌-◌, ◌≤◌, ◌<◌}
use native.Mathlib.Omega.{arith}
use native.Mathlib.Numerals.{add-one}
use native.Mathlib.Nat.{not-suc-le-zero, eq-or-lt_of_le, le_of_suc-le-suc}
use mathlib.Core.Path.{◌≡◌, ap}
use mathlib.Core.Logic.{◌⊎◌, inl, inr}
use mathlib.Core.Bool.{true, false}
use mathlib.Core.List.{List}
use lib.ListN.{length, get_or, take}
use lib.Seq.{take_all}
use Rattle.lists.specs.Lists.{total}
use Rattle.lists.proofs.Tests.{T_true, false-T}
use Rattle.refusal.specs.declared.Refusal.TheVariants.{BadCounts}
use Rattle.refusal.specs.Checked.{accepted, refused}
use Rattle.layers.specs.declared.LayerHead.{LayerHead}
use Rattle.commit.specs.Committing.{layer_takes, check_counts}
use Rattle.commit.proofs.Counts.{takes-placed, placed-takes, within, total-take-suc, total-take-le}
use Rattle.commit.proofs.Checks.{counts-good, counts-bad}

-- the layers below x take their counts, and `left` of b is left
pub record Counted (layers : List LayerHead) (s b : ℕ) (counts : List ℕ) (x left : ℕ) : Type 0 where
  pub rest : total (take x counts) + left ≡ b
  pub taken : (y : ℕ) → y < x → layer_takes layers s y (get_or counts y 0) ≡ true

module _ (layers : List LayerHead) (s b : ℕ) (counts : List ℕ) where
  pub counted_none : Counted layers s b counts 0 b
  unfolding total
  counted_none = record { rest = omega arith; taken = λ y h. absurd (not-suc-le-zero h) }

  module _ {x left : ℕ} (f : Counted layers s b counts x left) where
    -- more than is left: the counts sum to more than b
    pub counted-more : left < get_or counts x 0 → check_counts layers s b counts ≡ refused BadCounts
    counted-more h =
        counts-bad layers s b counts
        (λ t. (let e = total-take-suc counts x in let most = total-take-le counts (suc x) in let is = t.sum in let r = f.rest in omega arith))

    -- a layer that has no place for its records
    pub counted-unplaced : layer_takes layers s x (get_or counts x 0) ≡ false → check_counts layers s b counts ≡ refused BadCounts
    counted-unplaced e =
        counts-bad layers s b counts (λ t. false-T e (placed-takes layers s x (get_or counts x 0) (t.placed x)))

    -- one layer more
    pub counted_next : get_or counts x 0 ≤ left → layer_takes layers s x (get_or counts x 0) ≡ true
        → Counted layers s b counts (x + 1) (left - get_or counts x 0)
    counted_next h e =
        record {
          rest = rw (add-one x, total-take-suc counts x) (let r = f.rest in omega arith);
          taken = λ y l. go y (eq-or-lt_of_le (le_of_suc-le-suc (rw (add-one x) at l)));
        }
      where
        go : (y : ℕ) → (y ≡ x) ⊎ (y < x) → layer_takes layers s y (get_or counts y 0) ≡ true
        go y (inl same) = rw same e
        go y (inr l) = f.taken y l

    -- at the end
    module _ (all : length counts ≤ x) where
      whole : total (take x counts) ≡ total counts
      whole = ap total (take_all x counts all)

      pub counted-less : 0 < left → check_counts layers s b counts ≡ refused BadCounts
      counted-less h =
          counts-bad layers s b counts (λ t. (let e = whole in let is = t.sum in let r = f.rest in omega arith))

      pub counted-all : left ≤ 0 → check_counts layers s b counts ≡ accepted tt
      counted-all h =
          counts-good layers s b counts
          (record {
            sum = let e = whole in let r = f.rest in omega arith;
            placed = λ y p.
                takes-placed layers s y (get_or counts y 0)
                (T_true (f.taken y (let l = within counts y p in omega arith))) p;
          })
