use Prim.Native.Nat.{◌+◌}
use native.Mathlib.Numerals.{add-one}
use mathlib.Core.Path.{◌≡◌, ap, ◌∙◌}
use lib.ListN.{replicate}
use Rattle.split.specs.Table.{copies_lose}
use Rattle.lists.proofs.Stores.{stored_to, stored-none}
use Rattle.split_steps.proofs.Costs.{costs-next}
use native.Mathlib.Omega.{arith}
use Rattle.split_steps.proofs.copy_costs.Goals as goal

pub loop-d-init : goal.loop-d-init
loop-d-init c = stored-none 0 (replicate 121 0) _

pub loop-d-preserved : goal.loop-d-preserved
loop-d-preserved c =
    costs-next c.args.order.s c.args.order.k c.args.x c.args.bound c.loop-d.d c.loop-d.invariant c.floors_down.ensures

pub returns-2 : goal.returns-2
returns-2 c =
    let e : c.loop-d.d ≡ c.args.period = omega arith in
    costs-next c.args.order.s c.args.order.k c.args.x c.args.bound c.loop-d.d c.loop-d.invariant c.floors_down.ensures
    ∙ ap (stored_to 0 (replicate 121 0) (copies_lose c.args.order.s c.args.order.k c.args.x c.args.bound)) (ap (λ n. n + 1) e ∙ add-one c.args.period)
