use Prim.Native.Nat.{◌+◌, ◌*◌}
use native.Mathlib.Nat.{zero-mul}
use mathlib.Core.Path.{◌≡◌}
use Rattle.crowding.proofs.LinkRows.{rows_start, row_inside, rows-to-link, rows_next, rows-end}
use native.Mathlib.Omega.{arith}
use Rattle.crowding_chains.proofs.rows.link_rows.Goals as goal

pub loop-i-init : goal.loop-i-init
loop-i-init c = rw zero-mul (rows_start c.requires)

pub overflow_add-end : goal.overflow_add-end
overflow_add-end c =
    let pre = c.requires in
    omega (arith, (row_inside pre c.loop-i.invariant (omega arith)).1, pre.slices.short)

pub overflow_sub-to : goal.overflow_sub-to
overflow_sub-to c = omega (arith, c.requires.limits)

pub link-most-requires : goal.link-most-requires
link-most-requires c =
    rows-to-link c.requires c.loop-i.invariant (omega arith)

pub loop-i-preserved : goal.loop-i-preserved
loop-i-preserved c =
    let next : (c.loop-i.i + 1) * c.args.level.r ≡ c.loop-i.i * c.args.level.r + c.args.level.r = omega arith in
    rw next (rows_next c.requires c.loop-i.invariant (omega arith) c.link-most.ensures c.link-most.auto.heads
    c.link-most.auto.counts c.link-most.auto.next)

pub returns : goal.returns
returns c = rows-end c.loop-i.invariant (omega arith)
