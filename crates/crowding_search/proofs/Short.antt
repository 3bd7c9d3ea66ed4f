-- Chains that are no longer than the bound, down from a node: a block more, and a node more. Assumes nothing.
use Prim.Native.Nat.{ℕ, ◌+◌, ◌-◌, ◌≤◌, ◌<◌}
use mathlib.Core.Path.{◌≡◌, refl, ap, ◌∙◌}
use mathlib.Core.Bool.{Bool, true, false}
use mathlib.Core.List.{List}
use native.Mathlib.Omega.{arith}
use lib.ListN.{get_or, take, drop}
use lib.Seq.{get_or-take, get_or-drop}
use lib.Dec.{leb}
use borrow.Author.Tests.{leb-true, leb-false}
use Rattle.lists.specs.Lists.{largest}
use Rattle.lists.proofs.Largest.{largest-le}
use Rattle.crowding.specs.Chains.{ShortFrom}

module _ (counts : List ℕ) (from m : ℕ) where
  -- each chain of a block is at most as long as the longest of them
  in_block : (u : ℕ) → from ≤ u → u < m → get_or counts u 0 ≤ largest (take (m - from) (drop from counts))
  in_block u le lt =
      let e : from + (u - from) ≡ u = omega arith in
      let same : get_or (take (m - from) (drop from counts)) (u - from) 0 ≡ get_or counts u 0 =
      get_or-take (m - from) (drop from counts) (u - from) 0 (omega arith)
      ∙ get_or-drop from counts (u - from) 0
      ∙ ap (λ i. get_or counts i 0) e in
      omega (arith, same, largest-le (take (m - from) (drop from counts)) (u - from))

  -- a block of nodes more
  pub short-block : {to bound : ℕ} → ShortFrom m to bound counts → largest (take (m - from) (drop from counts)) ≤ bound
      → ShortFrom from to bound counts
  short-block {to} {bound} short few u le lt = go (leb m u) refl
    where
      go : (b : Bool) → leb m u ≡ b → get_or counts u 0 ≤ bound
      go true e = short u (leb-true m u e) lt
      go false e = omega (arith, few, in_block u le (leb-false m u e))

-- a node more
pub short-node : (counts : List ℕ) (m : ℕ) {to bound : ℕ} → ShortFrom m to bound counts → get_or counts (m - 1) 0 ≤ bound
    → ShortFrom (m - 1) to bound counts
short-node counts m {to} {bound} short few u le lt = go (leb m u) refl
  where
    go : (b : Bool) → leb m u ≡ b → get_or counts u 0 ≤ bound
    go true e = short u (leb-true m u e) lt
    go false e =
        let same : u ≡ m - 1 = omega (arith, leb-false m u e) in
        rw same few
