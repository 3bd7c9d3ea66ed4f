use native.Mathlib.Omega.{arith}
use native.Mathlib.Nat.{sub-zero}
use Prim.Native.Nat.{◌-◌}
use mathlib.Core.Path.{◌≡◌}
use lib.ListN.{length, take}
use Rattle.table_printer.proofs.Turns.{taken, layers-none, layers-all, layer-inside, layer-from, layer-blocks, mu-room, blocks-room, layers-next}
use Rattle.table_printer.proofs.layers_text.put_layers.Goals as goal

pub put_rows-place-requires : goal.put_rows-place-requires
put_rows-place-requires c =
    let long : length (take (c.args.r - 0) c.args.heads) ≡ c.args.r = taken c.args.heads c.args.r (omega (arith, c.well_formed)) c.requires.r_bound in record { r_in_bounds = layer-blocks (take (c.args.r - 0) c.args.heads) c.args.rows.now c.args.r c.args.out.now c.args.at long c.loop-head.invariant (omega (arith, c.loop-head-test.true)); r_bound = c.requires.r_bound; rows_in_bounds = blocks-room (take (c.args.r - 0) c.args.heads) c.args.rows.now c.args.r c.args.out.now c.args.at long c.loop-head.invariant (omega (arith, c.loop-head-test.true)) (rw sub-zero c.requires.rows_in_bounds) c.put_line-next.ensures }

pub overflow_mul-from : goal.overflow_mul-from
overflow_mul-from c =
    let long : length (take (c.args.r - 0) c.args.heads) ≡ c.args.r = taken c.args.heads c.args.r (omega (arith, c.well_formed)) c.requires.r_bound in
    omega (arith, layer-inside (take (c.args.r - 0) c.args.heads) c.args.rows.now c.args.r c.args.out.now c.args.at long c.loop-head.invariant (omega (arith, c.loop-head-test.true)))

pub overflow_add-from : goal.overflow_add-from
overflow_add-from c =
    let long : length (take (c.args.r - 0) c.args.heads) ≡ c.args.r = taken c.args.heads c.args.r (omega (arith, c.well_formed)) c.requires.r_bound in
    omega (arith, layer-inside (take (c.args.r - 0) c.args.heads) c.args.rows.now c.args.r c.args.out.now c.args.at long c.loop-head.invariant (omega (arith, c.loop-head-test.true)))

pub loop-head-preserved : goal.loop-head-preserved
loop-head-preserved c =
    let long : length (take (c.args.r - 0) c.args.heads) ≡ c.args.r = taken c.args.heads c.args.r (omega (arith, c.well_formed)) c.requires.r_bound in
    layers-next (take (c.args.r - 0) c.args.heads) c.args.rows.now c.args.r c.args.out.now c.args.at long c.loop-head.invariant (omega (arith, c.loop-head-test.true)) (rw sub-zero c.requires.rows_in_bounds) c.put_line-next.ensures c.put_rows-place.ensures

pub returns : goal.returns
returns c =
    let long : length (take (c.args.r - 0) c.args.heads) ≡ c.args.r = taken c.args.heads c.args.r (omega (arith, c.well_formed)) c.requires.r_bound in
    let long2 : take (c.args.r - 0) c.args.heads ≡ take c.args.r c.args.heads = rw sub-zero in
    rw (← long2) (layers-all (take (c.args.r - 0) c.args.heads) c.args.rows.now c.args.r c.args.out.now c.args.at long c.loop-head.invariant (omega (arith, c.loop-head-test.false)))
