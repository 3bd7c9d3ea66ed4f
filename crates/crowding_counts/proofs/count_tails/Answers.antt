use Prim.Native.Nat.{◌+◌, ◌-◌}
use native.Mathlib.Nat.{sub-zero, div-le_self}
use native.Mathlib.Omega.{arith}
use mathlib.Core.Path.{◌≡◌}
use Rattle.crowding.proofs.CountTails.{counting-start, counting-in-row, counting-to-count, counting-next, counting-end}
use Rattle.crowding.proofs.Walks.{InRow}
use Rattle.crowding_counts.proofs.count_tails.Goals as goal

pub loop-init : goal.loop-init
loop-init c =
    rw (c.from-p.ensures, sub-zero) (counting-start c.requires.chain_to_count c.requires.counts_len.0 c.requires.counts_len.1)

pub overflow_add-from : goal.overflow_add-from
overflow_add-from c =
    let row : InRow c.args.r c.args.rows.now c.loop.p = counting-in-row c.requires.chain_to_count c.loop.invariant (omega arith) in
    omega arith

pub overflow_add-to : goal.overflow_add-to
overflow_add-to c =
    let row : InRow c.args.r c.args.rows.now c.loop.p = counting-in-row c.requires.chain_to_count c.loop.invariant (omega arith) in
    omega (arith, div-le_self c.loop.p c.args.r)

pub overflow_mul-to : goal.overflow_mul-to
overflow_mul-to c =
    let row : InRow c.args.r c.args.rows.now c.loop.p = counting-in-row c.requires.chain_to_count c.loop.invariant (omega arith) in
    omega arith

pub count_nodes-most-requires : goal.count_nodes-most-requires
count_nodes-most-requires c = counting-to-count c.requires.chain_to_count c.loop.invariant (omega arith)

pub offset_bounds-next-p : goal.offset_bounds-next-p
offset_bounds-next-p c =
    let row : InRow c.args.r c.args.rows.now c.loop.p = counting-in-row c.requires.chain_to_count c.loop.invariant (omega arith) in
    omega arith

pub bounds-next-p : goal.bounds-next-p
bounds-next-p c =
    let row : InRow c.args.r c.args.rows.now c.loop.p = counting-in-row c.requires.chain_to_count c.loop.invariant (omega arith) in
    omega (arith, c.requires.chain_to_count.entries)

pub loop-preserved : goal.loop-preserved
loop-preserved c =
    let turn : c.args.chain.count - (c.loop.counter + 1) ≡ c.args.chain.count - c.loop.counter - 1 = omega arith in
    rw (turn, c.from-p-in-loop.ensures)
    (counting-next c.requires.chain_to_count c.loop.invariant (omega arith) c.count_nodes-most.ensures c.count_nodes-most.auto.counts)

pub returns : goal.returns
returns c = counting-end c.loop.invariant (omega arith)
