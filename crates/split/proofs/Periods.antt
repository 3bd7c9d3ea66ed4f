-- Costs that repeat with a period, and the costs of a layer's steps as such. Assumes nothing.
use Prim.Native.Nat.{ℕ, zero, suc, ◌+◌, ◌*◌, ◌/◌, ◌%◌, ◌≤◌, ◌<◌}
use native.Mathlib.Nat.{le_refl, le_of_lt, mul-le-mul_right, suc-mul, mod-lt, mod_self, mod-eq_of_lt, mod-add-div', div_self, div-eq_of_lt, add-div_right, add-mod_right, eq-or-lt_of_le}
use native.Mathlib.Omega.{arith}
use mathlib.Core.Path.{◌≡◌, sym, ap, ap₂, ◌∙◌}
use mathlib.Core.Logic.{◌⊎◌, inl, inr}
use lib.ListN.{get_or}
use Rattle.lists.proofs.Arith.{div-le-div-right}
use Rattle.split.specs.declared.Steps.{Steps}
use Rattle.split.specs.Table.{StepLimits, copies_cost}

-- `cost` is 0 at 0, never falls and repeats with the period
pub record Repeating (cost : ℕ → ℕ) (period : ℕ) : Type 0 where
  pub some : 0 < period
  pub none : cost 0 ≡ 0
  pub rising : (a b : ℕ) → a ≤ b → cost a ≤ cost b
  pub repeats : (d : ℕ) → cost (d + period) ≡ cost d + cost period

module _ {cost : ℕ → ℕ} {period : ℕ} (r : Repeating cost period) where
  -- q periods more
  pub cost-periods : (d q : ℕ) → cost (d + q * period) ≡ cost d + q * cost period
  cost-periods d zero = let e : d + 0 * period ≡ d = omega arith in rw e (omega arith)
  cost-periods d (suc q) =
      let e : d + suc q * period ≡ d + q * period + period = omega arith in
      rw e (r.repeats (d + q * period) ∙ (let ih = cost-periods d q in omega arith))

  -- whole periods, and the rest
  pub cost-parts : (d : ℕ) → cost d ≡ d / period * cost period + cost (d % period)
  cost-parts d =
      ap cost (sym (mod-add-div' d period)) ∙ cost-periods (d % period) (d / period) ∙ omega arith

-- the costs of copies
module _ {u : Steps} (limits : StepLimits u) where
  abbrev whole : ℕ
  whole = get_or u.costs u.period 0

  pub copies_cost-lt : (d : ℕ) → d < u.period → copies_cost u d ≡ get_or u.costs d 0
  copies_cost-lt d h = rw (div-eq_of_lt h, mod-eq_of_lt h) (omega arith)

  pub copies_cost-period : copies_cost u u.period ≡ whole
  copies_cost-period = rw (div_self limits.period-pos, mod_self u.period, limits.none) (omega arith)

  copies_cost-rising : (a b : ℕ) → a ≤ b → copies_cost u a ≤ copies_cost u b
  copies_cost-rising a b h = go (eq-or-lt_of_le (div-le-div-right a b u.period h))
    where
      go : (a / u.period ≡ b / u.period) ⊎ (a / u.period < b / u.period) → copies_cost u a ≤ copies_cost u b
      go (inl e) =
          let pa = mod-add-div' a u.period in
          let pb = mod-add-div' b u.period in
          let q = ap (λ n. n * u.period) e in
          let m = ap (λ n. n * whole) e in
          let l = limits.rising (a % u.period) (b % u.period) (omega arith) (le_of_lt (mod-lt b limits.period-pos)) in
          omega arith
      go (inr l) =
          let m = mul-le-mul_right whole l in
          let s = suc-mul (a / u.period) whole in
          let r = limits.rising (a % u.period) u.period (le_of_lt (mod-lt a limits.period-pos)) (le_refl _) in
          omega arith

  pub copies-repeat : Repeating (copies_cost u) u.period
  copies-repeat =
      record {
        some = limits.period-pos;
        none = copies_cost-lt 0 limits.period-pos ∙ limits.none;
        rising = copies_cost-rising;
        repeats = λ d.
            ap₂ (λ q e. q * whole + get_or u.costs e 0) (add-div_right d limits.period-pos) (add-mod_right d u.period)
            ∙ (let e = copies_cost-period in omega arith);
      }
