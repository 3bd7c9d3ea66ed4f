use Prim.Native.Nat.{◌+◌}
use native.Mathlib.Omega.{arith}
use mathlib.Core.Path.{◌≡◌, refl, ◌∙◌, ap}
use lib.ListN.{take}
use Rattle.lists.specs.Lists.{total}
use Rattle.layers.specs.Layers.{sizes}
use Rattle.layers.proofs.Arrays.{sizes-take-suc, sizes-take-le}
use Rattle.crowding_code.proofs.sizes.count_rows.Goals as goal

pub loop-x-init : goal.loop-x-init
unfolding total
loop-x-init c = refl

pub overflow_add-sum : goal.overflow_add-sum
overflow_add-sum c =
    let next = sizes-take-suc c.args.heads c.loop-x.x in
    omega (arith, sizes-take-le c.args.heads (c.loop-x.x + 1) c.args.layers (omega arith))

pub loop-x-preserved : goal.loop-x-preserved
loop-x-preserved c =
    let next = sizes-take-suc c.args.heads c.loop-x.x in
    omega arith

pub returns : goal.returns
returns c =
    let all : c.loop-x.x ≡ c.args.layers = omega arith in
    c.loop-x.invariant ∙ ap (λ x. sizes (take x c.args.heads)) all
