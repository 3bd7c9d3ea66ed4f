use Prim.Native.Nat.{ℕ, suc, ◌+◌, ◌*◌, ◌-◌, ◌≤◌}
use native.Mathlib.Numerals.{add-one}
use native.Mathlib.Omega.{arith}
use mathlib.Core.Path.{◌≡◌}
use mathlib.Core.List.{List, map}
use lib.ListN.{length}
use lib.Seq.{sets}
use Rattle.lists.specs.Lists.{up_to}
use Rattle.layers.specs.declared.LayerHead.{LayerHead}
use Rattle.placement.specs.declared.Order.{Order}
use Rattle.split.specs.Table.{Limits}
use Rattle.split.specs.Working.{Filled, loss_below}
use Rattle.split.proofs.LayerSteps.{steps-limits}
use Rattle.split.proofs.Filling.{lines_fit, filled-base, filled-here, filled-since, line-below, filling-next}
use Rattle.split_table.proofs.fill.Goals as goal

-- the lowest line is filled
base-filled : (layers : List LayerHead) (order : Order) (work : List ℕ) {after : List ℕ} → Limits layers order
    → order.s * suc order.b ≤ length work → after ≡ sets work 0 (map loss_below (up_to (order.b + 1)))
    → Filled layers order.s order.k (order.b + 1) 1 work after
base-filled layers order work limits fits e =
    filled-base layers order.s order.k (order.b + 1) (lines_fit order.s order.b _ fits) limits.s-pos e

pub loop-x-init : goal.loop-x-init
loop-x-init c =
    let p = c.requires in
    let f = base-filled c.args.layers c.args.order c.args.work.now p.0 p.1 c.base_line.ensures in
    record {
      some = omega arith;
      within = p.0.s-pos;
      fits = rw f.same_length (lines_fit c.args.order.s c.args.order.b _ p.1);
      filled = filled-here _ _ _ _ f;
    }

pub raise_line-requires : goal.raise_line-requires
raise_line-requires c = (
  rw c.steps-u.ensures (steps-limits c.args.layers c.args.order (c.loop-x.x - 1) c.requires.0 (omega arith)),
  line-below c.requires.0 c.loop-x.invariant c.loop-x-test.true,
)

pub loop-x-preserved : goal.loop-x-preserved
loop-x-preserved c =
    filling-next c.requires.0 c.loop-x.invariant c.loop-x-test.true c.steps-u.ensures
    c.raise_line.ensures

pub returns : goal.returns
returns c =
    let p = c.requires in
    let f = base-filled c.args.layers c.args.order c.args.work.now p.0 p.1 c.base_line.ensures in
    rw (← add-one c.args.order.b) (filled-since _ _ _ _ (omega arith) f c.loop-x.invariant.filled)
