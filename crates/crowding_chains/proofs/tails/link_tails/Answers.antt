use Prim.Native.Nat.{◌+◌, ◌-◌}
use native.Mathlib.Nat.{sub-zero, div-le_self}
use native.Mathlib.Omega.{arith}
use mathlib.Core.Path.{◌≡◌}
use Rattle.crowding.proofs.LinkTails.{tails-start, tails-in-row, tails-to-link, tails-next, tails_end}
use Rattle.crowding.proofs.Walks.{InRow}
use Rattle.crowding_chains.proofs.tails.link_tails.Goals as goal

pub loop-init : goal.loop-init
loop-init c = rw (c.from-p.ensures, sub-zero) (tails-start c.requires)

pub offset_bounds-next-p : goal.offset_bounds-next-p
offset_bounds-next-p c =
    let row : InRow c.args.level.r c.args.rows.now c.loop.p = tails-in-row c.requires c.loop.invariant (omega arith) in
    omega (arith, c.requires.slices)

pub bounds-next-p : goal.bounds-next-p
bounds-next-p c =
    let row : InRow c.args.level.r c.args.rows.now c.loop.p = tails-in-row c.requires c.loop.invariant (omega arith) in
    omega (arith, c.requires.slices)

pub overflow_add-end : goal.overflow_add-end
overflow_add-end c =
    let row : InRow c.args.level.r c.args.rows.now c.loop.p = tails-in-row c.requires c.loop.invariant (omega arith) in
    omega (arith, div-le_self c.loop.p c.args.level.r)

pub overflow_mul-end : goal.overflow_mul-end
overflow_mul-end c =
    let row : InRow c.args.level.r c.args.rows.now c.loop.p = tails-in-row c.requires c.loop.invariant (omega arith) in
    omega arith

pub overflow_add-from : goal.overflow_add-from
overflow_add-from c =
    let row : InRow c.args.level.r c.args.rows.now c.loop.p = tails-in-row c.requires c.loop.invariant (omega arith) in
    omega arith

pub overflow_sub-to : goal.overflow_sub-to
overflow_sub-to c =
    let row : InRow c.args.level.r c.args.rows.now c.loop.p = tails-in-row c.requires c.loop.invariant (omega arith) in
    omega (arith, c.requires.limits)

pub link-most-requires : goal.link-most-requires
link-most-requires c = tails-to-link c.requires c.loop.invariant (omega arith)

pub loop-preserved : goal.loop-preserved
loop-preserved c =
    let turn : c.args.chain.count - (c.loop.counter + 1) ≡ c.args.chain.count - c.loop.counter - 1 = omega arith in
    rw (turn, c.from-p-in-loop.ensures)
    (tails-next c.requires c.loop.invariant (omega arith) c.link-most.ensures c.link-most.auto.heads c.link-most.auto.counts c.link-most.auto.next)

pub returns : goal.returns
returns c = tails_end c.loop.invariant (omega arith)
