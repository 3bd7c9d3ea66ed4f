-- A line of the table by three rules: the layer's records cost one by one, or its copies do, in whole periods and fewer copies
-- than a period beside them. It needs of the copies' cost that it is 0 at 0, never falls and repeats with a period. Assumes
-- nothing.
use Prim.Native.Nat.{ℕ, zero, suc, ◌+◌, ◌*◌, ◌-◌, ◌/◌, ◌%◌, ◌≤◌, ◌<◌, min}
use native.Mathlib.Nat.{le_antisymm, min-le_left, min-le_right, min-eq_left, mul-le-mul_left, mul-one, mul-pos, mod-lt, mod-add-div'}
use native.Mathlib.Omega.{arith}
use mathlib.Core.Path.{◌≡◌, sym, ap, ap₂, ◌∙◌}
use mathlib.Core.Logic.{◌⊎◌, inl, inr}
use mathlib.Core.List.{List, map}
use lib.ListN.{length, get_or}
use Rattle.lists.specs.Lists.{up_to}
use Rattle.lists.proofs.UpTo.{map-up_to-congr}
use Rattle.split.specs.declared.Steps.{Steps}
use Rattle.split.specs.Splits.{copies_for, no_split, least, last_least}
use Rattle.split.specs.Table.{Rising, sum_at, line_above, copies_cost, step_loss, StepLimits, stepped, by_copies, line_entry}
use Rattle.lists.proofs.Arith.{le-or-lt}
use Rattle.split.proofs.Least.{least-le, le-least}
use Rattle.split.proofs.Congruence.{least-congr, last_least-congr}
use Rattle.split.proofs.Copies.{copies_for-le, le-copies_for-mul}
use Rattle.split.proofs.Periods.{Repeating, cost-periods, cost-parts, copies_cost-lt, copies_cost-period, copies-repeat}
use Rattle.split.proofs.Stepped.{stepped-le, le-stepped, stepped-le-below, stepped-le-mark}

module _ {cost : ℕ → ℕ} {period : ℕ} (r : Repeating cost period) (size each : ℕ) (pos : 0 < size) (below : List ℕ) where
  abbrev loss_by : (c : ℕ) → ℕ
  loss_by c = min (c * each) (cost (copies_for c size))

  -- by whole periods, and by any copies
  abbrev periods : (b : ℕ) → ℕ
  periods b = stepped (period * size) (cost period) below b

  abbrev fewer : (b d : ℕ) → ℕ
  fewer b d = cost d + periods (b - d * size)

  abbrev copies : (b : ℕ) → ℕ
  copies b = least (fewer b) (period - 1)

  -- q periods beside d copies
  back : (b d q : ℕ) → b - d * size - q * (period * size) ≡ b - (d + q * period) * size
  back b d q = omega arith

  -- of d copies the largest count is best
  largest-count : (b d : ℕ) → least (sum_at loss_by below b) b ≤ get_or below (b - d * size) 0 + cost d
  largest-count b d =
      let c = min (d * size) b in
      let l = least-le (sum_at loss_by below b) b c (min-le_right _ b) in
      let few = r.rising _ _ (copies_for-le c size d pos (min-le_left _ b)) in
      let q : b - d * size ≡ b - c = omega arith in
      rw q (omega arith)

  -- what is at most the cost of any number of copies is at most the least
  le-copies : (n b : ℕ) → ((d : ℕ) → n ≤ get_or below (b - d * size) 0 + cost d) → n ≤ copies b
  le-copies n b h =
      le-least (fewer b) n (period - 1) (λ d g.
      let l = le-stepped (period * size) (cost period) below (mul-pos r.some pos) (n - cost d) (b - d * size)
      (λ q. let e = cost-periods r d q in let i = h (d + q * period) in rw (back b d q) (omega arith)) in
      omega arith)

  least-le-records : (b : ℕ) → least (sum_at loss_by below b) b ≤ stepped 1 each below b
  unfolding stepped
  least-le-records b =
      le-least _ _ b (λ c h.
      let l = least-le (sum_at loss_by below b) b c h in
      rw (mul-one c) (omega arith))

  -- no number of copies costs less
  copies-le : (b d : ℕ) → copies b ≤ get_or below (b - d * size) 0 + cost d
  copies-le b d =
      let q = d / period in
      let few = mod-lt d r.some in
      let l = least-le (fewer b) (period - 1) (d % period) (omega arith) in
      let g = stepped-le (period * size) (cost period) below (mul-pos r.some pos) (b - d % period * size) q in
      let e = cost-parts r d in
      let p : b - d % period * size - q * (period * size) ≡ b - d * size =
      back b (d % period) q ∙ ap (λ n. b - n * size) (mod-add-div' d period) in
      rw (← p) (omega arith)

  none-less : (b : ℕ) → Rising below → b < length below → (c : ℕ) → c ≤ b
      → min (stepped 1 each below b) (copies b) ≤ sum_at loss_by below b c
  none-less b rises within c h =
      let d = copies_for c size in
      let records : stepped 1 each below b ≤ get_or below (b - c) 0 + c * each = rw (mul-one c) at (stepped-le 1 each below (omega arith) b c) in
      let held = le-copies_for-mul c size pos in
      let all = copies-le b d in
      let up = rises.rising (b - d * size) (b - c) (omega arith) (omega arith) in
      omega arith

  least-by-steps : (b : ℕ) → Rising below → b < length below → least (sum_at loss_by below b) b ≡ min (stepped 1 each below b) (copies b)
  least-by-steps b rises within =
      let x = least-le-records b in
      let y = le-copies _ b (largest-count b) in
      le_antisymm (omega arith) (le-least (sum_at loss_by below b) _ b (none-less b rises within))

module _ {u : Steps} (limits : StepLimits u) (below : List ℕ) where
  -- the costs are those in the array
  by_copies-eq : (b : ℕ) → by_copies u below b ≡ copies (copies-repeat limits) u.size u.each limits.size-pos below b
  by_copies-eq b =
      least-congr _ _ (u.period - 1) (λ d h.
      let p = limits.period-pos in
      ap₂ (λ one all. one + stepped (u.period * u.size) all below (b - d * u.size))
      (sym (copies_cost-lt limits d (omega arith))) (sym (copies_cost-period limits)))

  least-steps : (b : ℕ) → Rising below → b < length below → least (sum_at (step_loss u) below b) b ≡ line_entry u below b
  least-steps b rises within =
      least-by-steps (copies-repeat limits) u.size u.each limits.size-pos below b rises within
      ∙ ap (min (stepped 1 u.each below b)) (sym (by_copies-eq b))

  -- where a copy costs the mark, or all the records that it holds, it is of no use
  module _ (rising : Rising below) (dear : min no_split (u.size * u.each) ≤ get_or u.costs 1 0) where
    records-le : (b d : ℕ) → stepped 1 u.each below b ≤ get_or below (b - d * u.size) 0 + copies_cost u d
    records-le b zero =
        let h = stepped-le-below 1 u.each below (omega arith) b in
        let e : b - 0 * u.size ≡ b = omega arith in
        rw e (omega arith)
    records-le b (suc d) = go (le-or-lt no_split (u.size * u.each))
      where
        go : (no_split ≤ u.size * u.each) ⊎ (u.size * u.each < no_split)
            → stepped 1 u.each below b ≤ get_or below (b - suc d * u.size) 0 + copies_cost u (suc d)
        go (inl h) =
            let m = stepped-le-mark 1 u.each below (omega arith) rising b in
            let g = mul-le-mul_left (suc d) dear in
            let l = limits.single (suc d) in
            omega arith
        go (inr h) =
            let steps : stepped 1 u.each below b ≤ get_or below (b - suc d * u.size) 0 + suc d * u.size * u.each =
            rw (mul-one (suc d * u.size)) at (stepped-le 1 u.each below (omega arith) b (suc d * u.size)) in
            let g : suc d * (u.size * u.each) ≤ suc d * get_or u.costs 1 0 = mul-le-mul_left (suc d) (omega arith) in
            let l = limits.single (suc d) in
            omega arith

    pub line_entry-records : (b : ℕ) → line_entry u below b ≡ stepped 1 u.each below b
    line_entry-records b =
        min-eq_left (rw (by_copies-eq b) (le-copies (copies-repeat limits) u.size u.each limits.size-pos below _ b (records-le b)))

-- a loss in steps, for as many records as a line has
module _ (loss : ℕ → ℕ) (u : Steps) (agree : (c : ℕ) → c ≤ 4_096 → loss c ≡ step_loss u c) (below : List ℕ) where
  sum_at-steps : (b c : ℕ) → c ≤ 4_096 → sum_at loss below b c ≡ sum_at (step_loss u) below b c
  sum_at-steps b c h = ap (λ n. n + get_or below (b - c) 0) (agree c h)

  -- the whole line
  pub line_above-steps : StepLimits u → Rising below → length below ≤ 4_097
      → line_above loss below ≡ map (line_entry u below) (up_to (length below))
  line_above-steps limits r small =
      map-up_to-congr _ _ (length below) (λ b h. least-congr _ _ b (λ c l. sum_at-steps b c (omega arith)) ∙ least-steps limits below b r h)

  -- the largest count with the least loss
  pub last_least-steps : (b : ℕ) → b ≤ 4_096 → last_least (sum_at (step_loss u) below b) b ≡ last_least (sum_at loss below b) b
  last_least-steps b small = last_least-congr _ _ b (λ c l. sym (sum_at-steps b c (omega arith)))
