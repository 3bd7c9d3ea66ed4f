-- `split_steps::falling_product` meets its contract. The loop's invariant: the factors before s-i are taken. Assumes nothing.
use Prim.Native.Nat.{◌+◌, ◌-◌, ◌≤◌}
use mathlib.Core.Path.{◌≡◌}
use Rattle.packing.specs.Floors.{falling}
use Rattle.split_steps.proofs.falling_product.Given as goal

abbrev pub invariant-loop-i : goal.invariant-loop-i
invariant-loop-i l = (l.i ≤ l.x + 1) × (l.product ≡ falling l.s (l.i - 1))
