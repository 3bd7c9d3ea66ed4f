-- An entry of the line above with one copy more, which is one pass over the line. Assumes nothing.
use Prim.Native.Nat.{ℕ, zero, suc, ◌+◌, ◌*◌, ◌-◌, ◌≤◌, ◌<◌, min}
use native.Mathlib.Nat.{le_refl, add-zero, add-suc, suc-mul, mul-le-mul_right}
use native.Mathlib.Omega.{arith}
use mathlib.Core.Path.{◌≡◌, refl, ◌∙◌}
use mathlib.Core.Logic.{◌⊎◌, inl, inr}
use mathlib.Core.List.{List}
use lib.ListN.{get_or}
use Rattle.lists.proofs.Arith.{le-or-lt}
use Rattle.split.specs.declared.Steps.{Steps}
use Rattle.split.specs.Splits.{no_split, least}
use Rattle.split.specs.Table.{StepLimits, Rising, stepped, by_periods, copies_up_to}
use Rattle.split.proofs.Least.{least-le, least-suc}
use Rattle.split.proofs.Stepped.{stepped-le-mark}

module _ (u : Steps) (below : List ℕ) where
  -- what d copies cost beside whole periods
  abbrev with : (b d : ℕ) → ℕ
  with b d = get_or u.costs d 0 + by_periods u below (b - d * u.size)

  -- no copy beside whole periods
  pub copies-none : StepLimits u → (b : ℕ) → copies_up_to u below 0 b ≡ min (stepped 1 u.each below b) (by_periods u below b)
  unfolding least
  copies-none limits b =
      let q : b - 0 * u.size ≡ b = omega arith in
      let z = limits.none in
      rw q (omega arith)

  -- one copy more; a cost above the mark is as good as the mark
  pub copies-next : Rising below → (d b : ℕ) {cost back : ℕ} → cost ≡ min (get_or u.costs (suc d) 0) no_split
      → back ≡ b - suc d * u.size → min (copies_up_to u below d b) (cost + by_periods u below back) ≡ copies_up_to u below (suc d) b
  copies-next rising d b {cost} {back} e q =
      let l = least-suc (with b) d in
      let h = stepped-le-mark 1 u.each below (omega arith) rising b in
      rw (e, q, l) (omega arith)

  -- copies past the line's start cost no less
  pub copies-past : StepLimits u → (d b : ℕ) → suc d ≤ u.period → b ≤ d * u.size → copies_up_to u below (suc d) b ≡ copies_up_to u below d b
  copies-past limits d b h g =
      let l = least-suc (with b) d in
      let one = least-le (with b) d d (le_refl d) in
      let up = limits.rising d (suc d) (omega arith) h in
      let more = suc-mul d u.size in
      let p : b - d * u.size ≡ 0 = omega arith in
      let q : b - suc d * u.size ≡ 0 = omega arith in
      let low : get_or u.costs d 0 + by_periods u below (b - d * u.size) ≤ get_or u.costs (suc d) 0 + by_periods u below (b - suc d * u.size) =
      rw (p, q) (omega arith) in
      rw l (omega arith)

  -- however many
  pub copies-all-past : StepLimits u → (d b e : ℕ) → d + e ≤ u.period → b ≤ d * u.size
      → copies_up_to u below (d + e) b ≡ copies_up_to u below d b
  copies-all-past limits d b zero h g = rw (add-zero d) refl
  copies-all-past limits d b (suc e) h g =
      let m : d * u.size ≤ (d + e) * u.size = mul-le-mul_right u.size (omega arith) in
      rw (add-suc d e) (copies-past limits (d + e) b (omega arith) (omega arith) ∙ copies-all-past limits d b e (omega arith) g)

  -- one copy more costs no less where suc d copies cost all that the records which they hold add below
  module _ (limits : StepLimits u) (w d : ℕ)
      (steep : (i : ℕ) → i < w - d * u.size → by_periods u below (suc d * u.size + i - u.size) ≤ get_or u.costs (suc d) 0 + by_periods u below (i - u.size)) where
    copies-steep : (e b : ℕ) → b < w → suc (d + e) ≤ u.period → copies_up_to u below (suc (d + e)) b ≡ copies_up_to u below (d + e) b
    copies-steep e b within few = go (le-or-lt b ((d + e) * u.size))
      where
        go : (b ≤ (d + e) * u.size) ⊎ ((d + e) * u.size < b) → copies_up_to u below (suc (d + e)) b ≡ copies_up_to u below (d + e) b
        go (inl h) = copies-past limits (d + e) b few h
        go (inr h) =
            let l = least-suc (with b) (d + e) in
            let fewer = least-le (with b) (d + e) e (omega arith) in
            let more = limits.together e (suc d) (omega arith) in
            let q : e + suc d ≡ suc (d + e) = omega arith in
            let i = b - (d + e) * u.size in
            let p : suc d * u.size + i - u.size ≡ b - e * u.size = omega arith in
            let r : i - u.size ≡ b - suc (d + e) * u.size = omega arith in
            let s = rw (p, r) at (steep i (omega arith)) in
            rw l (omega (arith, rw q at more))

    -- however many
    pub copies-all-steep : (e b : ℕ) → b < w → d + e ≤ u.period → copies_up_to u below (d + e) b ≡ copies_up_to u below d b
    copies-all-steep zero b within few = rw (add-zero d) refl
    copies-all-steep (suc e) b within few =
        rw (add-suc d e) (copies-steep e b within (omega arith) ∙ copies-all-steep e b within (omega arith))
