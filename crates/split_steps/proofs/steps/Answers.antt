-- `split_steps::steps` meets its contract: with blocks or without. Assumes nothing.
use Prim.Native.Nat.{◌<◌}
use Rattle.packing.proofs.Growth.{falling-le-120}
use Rattle.split_steps.proofs.Costs.{no_blocks, blocks}
use native.Mathlib.Omega.{arith}
use Rattle.split_steps.proofs.steps.Goals as goal

pub returns-then-size-eq0 : goal.returns-then-size-eq0
returns-then-size-eq0 c =
    no_blocks c.args.layers c.args.order.s c.args.order.k c.args.x c.if-size-eq0.true

pub copy_costs-costs-requires : goal.copy_costs-costs-requires
copy_costs-costs-requires c =
    let limits = c.requires.0 in
    let few : c.args.x < 5 = omega arith in (
      c.requires.1,
      limits.s-le,
      limits.s-le-k,
      omega arith,
      limits.mu-le c.args.x,
      rw c.falling_product-period.ensures (falling-le-120 c.args.order.s c.args.x limits.s-le few),
    )

pub returns : goal.returns
returns c =
    blocks c.args.layers c.args.order.s c.args.order.k c.args.x (omega (arith, c.if-size-eq0.false))
    c.falling_product-period.ensures c.copy_costs-costs.ensures
