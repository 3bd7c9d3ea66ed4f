-- A line of the table where the layer takes its records a number at a time at one cost: each entry from the line below and one
-- earlier entry. Assumes nothing.
use Prim.Native.Nat.{ℕ, zero, suc, ◌+◌, ◌*◌, ◌-◌, ◌≤◌, ◌<◌, min}
use native.Mathlib.Nat.{le_refl, le_antisymm, le_of_lt, le-mul_of_pos_right, mul-le-mul_right, suc-mul}
use native.Mathlib.Omega.{arith}
use mathlib.Core.Path.{◌≡◌, refl, sym, ◌∙◌}
use mathlib.Core.Logic.{◌⊎◌, inl, inr}
use mathlib.Core.List.{List}
use lib.ListN.{get_or}
use Rattle.split.specs.Splits.{no_split, least}
use Rattle.split.specs.Table.{Rising, with_steps, stepped}
use Rattle.lists.proofs.Arith.{le-or-lt}
use Rattle.split.proofs.Least.{least-le, le-least}

-- so many steps down from b are at or past its start
steps-past : (b d size : ℕ) → 0 < size → b ≤ d → b - d * size ≡ 0
steps-past b d size pos h = let g = le-mul_of_pos_right d pos in omega arith

module _ (size cost : ℕ) (below : List ℕ) (pos : 0 < size) where
  -- no number of steps costs less, steps past the start included
  pub stepped-le : (b d : ℕ) → stepped size cost below b ≤ with_steps size cost below b d
  unfolding stepped
  stepped-le b d = go (le-or-lt d b)
    where
      go : (d ≤ b) ⊎ (b < d) → least (with_steps size cost below b) b ≤ with_steps size cost below b d
      go (inl h) = least-le (with_steps size cost below b) b d h
      go (inr h) =
          let g : least (with_steps size cost below b) b ≤ get_or below 0 0 + b * cost =
          rw (steps-past b b size pos (le_refl b)) at (least-le (with_steps size cost below b) b b (le_refl b)) in
          let l = mul-le-mul_right cost (le_of_lt h) in
          rw (steps-past b d size pos (le_of_lt h)) (omega arith)

  pub le-stepped : (n b : ℕ) → ((d : ℕ) → n ≤ with_steps size cost below b d) → n ≤ stepped size cost below b
  unfolding stepped
  le-stepped n b h = le-least (with_steps size cost below b) n b (λ d l. h d)

  with_steps-zero : (b : ℕ) → with_steps size cost below b 0 ≡ get_or below b 0
  with_steps-zero b = let e : b - 0 * size ≡ b = omega arith in rw e (omega arith)

  -- no step at all
  pub stepped-le-below : (b : ℕ) → stepped size cost below b ≤ get_or below b 0
  stepped-le-below b = let h = stepped-le b 0 in let e = with_steps-zero b in omega arith

  -- no record loses nothing, and no loss is above the mark
  pub stepped-zero : Rising below → stepped size cost below 0 ≡ 0
  stepped-zero r = let h = stepped-le-below 0 in let e = r.first in omega arith

  pub stepped-le-mark : Rising below → (b : ℕ) → stepped size cost below b ≤ no_split
  stepped-le-mark r b = let h = stepped-le-below b in let g = r.marked b in omega arith

  -- one step more is a step from the entry `size` places before
  with_steps-suc : (b d : ℕ) → with_steps size cost below b (suc d) ≡ with_steps size cost below (b - size) d + cost
  with_steps-suc b d =
      let e : b - suc d * size ≡ b - size - d * size = let q = suc-mul d size in omega arith in
      let q = suc-mul d cost in
      rw e (omega arith)

  pub stepped-step : (b : ℕ) → stepped size cost below b ≡ min (get_or below b 0) (stepped size cost below (b - size) + cost)
  stepped-step b =
      le_antisymm least-of-both (le-stepped _ b none-less)
    where
      none-less : (d : ℕ) → min (get_or below b 0) (stepped size cost below (b - size) + cost) ≤ with_steps size cost below b d
      none-less zero = let e = with_steps-zero b in omega arith
      none-less (suc d) = let h = stepped-le (b - size) d in let e = with_steps-suc b d in omega arith

      least-of-both : stepped size cost below b ≤ min (get_or below b 0) (stepped size cost below (b - size) + cost)
      least-of-both =
          let none = stepped-le-below b in
          let more = le-stepped (stepped size cost below b - cost) (b - size)
          (λ d. let h = stepped-le b (suc d) in let e = with_steps-suc b d in omega arith) in
          omega arith

  -- a step that costs the mark is of no use, so a cost above it may be taken for it
  pub stepped-dear : Rising below → no_split ≤ cost → (b : ℕ) → stepped size cost below b ≡ get_or below b 0
  stepped-dear r h b = let e = stepped-step b in let g = r.marked b in omega arith

pub stepped-capped : (size cost : ℕ) (below : List ℕ) → 0 < size → Rising below → (b : ℕ)
    → stepped size (min cost no_split) below b ≡ stepped size cost below b
stepped-capped size cost below pos r b = go (le-or-lt cost no_split)
  where
    go : (cost ≤ no_split) ⊎ (no_split < cost) → stepped size (min cost no_split) below b ≡ stepped size cost below b
    go (inl h) = let e : min cost no_split ≡ cost = omega arith in rw e refl
    go (inr h) =
        stepped-dear size (min cost no_split) below pos r (omega arith) b ∙ sym (stepped-dear size cost below pos r (omega arith) b)

-- one record more
pub record-step : (each : ℕ) (below : List ℕ) (i : ℕ) {records under more : ℕ} → records ≡ stepped 1 each below (i - 1) → under ≡ get_or below i 0
    → more ≡ min under (records + each) → more ≡ stepped 1 each below i
record-step each below i r q e = let s = stepped-step 1 each below (omega arith) i in omega arith
