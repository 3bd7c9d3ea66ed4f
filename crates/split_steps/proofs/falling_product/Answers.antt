use Rattle.split_steps.proofs.Costs.{falling-none, falling-next, falling-small}
use native.Mathlib.Omega.{arith}
use Prim.Native.Nat.{◌+◌, ◌-◌}
use mathlib.Core.Path.{◌≡◌, ap, ◌∙◌}
use Rattle.packing.specs.Floors.{falling}
use Rattle.split_steps.proofs.falling_product.Goals as goal

pub loop-i-init : goal.loop-i-init
loop-i-init c = (omega arith, falling-none _)

pub overflow_mul-product : goal.overflow_mul-product
overflow_mul-product c =
    let h = falling-small c.args.s c.loop-i.i c.loop-i.product (omega arith) (omega arith) (omega arith) c.loop-i.invariant.1 in
    record { fits = omega arith }

pub loop-i-preserved : goal.loop-i-preserved
loop-i-preserved c =
    let e : c.loop-i.i + 1 - 1 ≡ c.loop-i.i = omega arith in
    (omega arith, rw e (falling-next c.args.s c.loop-i.i c.loop-i.product (omega arith) c.loop-i.invariant.1))

pub returns : goal.returns
returns c =
    let e : c.loop-i.i - 1 ≡ c.args.x = omega arith in
    rw e at c.loop-i.invariant.1

pub returns-2 : goal.returns-2
returns-2 c =
    let e : c.loop-i.i ≡ c.args.x = omega arith in
    falling-next c.args.s c.loop-i.i c.loop-i.product (omega arith) c.loop-i.invariant.1 ∙ ap (falling c.args.s) e
