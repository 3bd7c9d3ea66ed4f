use Prim.Native.Nat.{◌+◌, ◌-◌, ◌%◌}
use mathlib.Core.Path.{◌≡◌}
use lib.Dec.{eqb}
use Rattle.lists.specs.Lists.{count, up_to}
use Rattle.split.specs.Working.{climbs}
use Rattle.split_lines.proofs.Climbing.{none_found}
use Rattle.split_lines.proofs.Lowering.{copied_none, lowerable, climbable, copied_more, copied-enough, copied-past}
use native.Mathlib.Omega.{arith}
use Rattle.split_lines.proofs.passes.lower_by_copies.Goals as goal

pub loop-d-init : goal.loop-d-init
loop-d-init c = let p = c.requires in copied_none p.0 p.1 p.2

pub returns-then-w-back : goal.returns-then-w-back
returns-then-w-back c = let p = c.requires in copied-past p.0 p.1 p.2 c.loop-d.invariant c.if-w-back.true

pub is_enough-requires : goal.is_enough-requires
is_enough-requires c =
    let p = c.requires in
    (omega (arith, p.1.small), climbable p.0 p.1 p.2 c.loop-d.invariant c.if-w-back.false (omega (arith, c.min-cost.ensures)))

pub returns-then-is_enough : goal.returns-then-is_enough
returns-then-is_enough c =
    let p = c.requires in
    let none = none_found (eqb (c.loop-d.d % 8) 4)
    (count (climbs (c.loop-d.back + c.args.u.size) c.min-cost.result c.args.periods.now) (up_to (c.args.w - c.loop-d.back)))
    c.is_enough.ensures c.if-is_enough.true in
    copied-enough p.0 p.1 p.2 c.loop-d.invariant (omega arith) c.loop-d-test.true c.min-cost.ensures none

pub lower-requires : goal.lower-requires
lower-requires c =
    let p = c.requires in
    lowerable p.0 p.1 p.2 c.loop-d.invariant c.if-w-back.false (omega (arith, c.min-cost.ensures))

pub loop-d-preserved : goal.loop-d-preserved
loop-d-preserved c =
    let p = c.requires in
    let e : c.loop-d.d + 1 - 1 ≡ c.loop-d.d = omega arith in
    rw e (copied_more p.0 p.1 p.2 c.loop-d.invariant (omega arith) c.loop-d-test.true c.if-w-back.false c.min-cost.ensures c.lower.ensures)
