-- Laws of the grants. Assumes nothing.
use Prim.Native.Nat.{ℕ, ◌+◌, min, ◌≤◌}
use native.Mathlib.Omega.{arith}
use mathlib.Core.Path.{◌≡◌}
use Rattle.operators.specs.Operators.{grant}

module _ (w v : ℕ) where
  -- the two grants together
  pub grants-fit : grant w v + grant v w ≤ 4_096
  unfolding grant
  grants-fit = omega arith

  pub grant-most : grant w v ≤ w
  unfolding grant
  grant-most = omega arith

  pub grant-least : 1 ≤ w → 1 ≤ grant w v
  unfolding grant
  grant-least h = omega arith

  -- what is wanted up to 2,048
  pub grant-half : min w 2_048 ≤ grant w v
  unfolding grant
  grant-half = omega arith

  pub grant-whole : w ≤ 2_048 → grant w v ≡ w
  unfolding grant
  grant-whole h = omega arith
