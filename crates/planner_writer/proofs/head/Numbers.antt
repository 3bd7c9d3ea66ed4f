-- The numbers of a placement's head after the list of nodes, from an array of five layers. Assumes nothing.
use Prim.Native.Nat.{ℕ, suc, ◌+◌, ◌*◌, ◌-◌}
use native.Mathlib.Omega.{arith}
use mathlib.Core.Path.{◌≡◌}
use mathlib.Core.List.{List}
use lib.ListN.{take, drop}
use Rattle.layers.specs.declared.LayerHead.{LayerHead}
use Rattle.layers.proofs.HeadNumbers.{take-head_numbers}
use Rattle.placement.specs.declared.Order.{Order}
use Rattle.planner.specs.Writing.{own_numbers}

-- the numbers that are lent
pub own-taken : (order : Order) (figure : ℕ) (heads : List LayerHead) (s : ℕ)
    → take (4 + 2 * s - 0) (drop 0 (own_numbers order figure heads)) ≡ own_numbers order figure (take s heads)
own-taken order figure heads s =
    let e : 4 + 2 * s - 0 ≡ suc (suc (suc (suc (2 * s)))) = omega arith in
    rw (e, take-head_numbers s heads)
