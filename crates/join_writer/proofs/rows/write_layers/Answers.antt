use native.Mathlib.Omega.{arith}
use Rattle.join.proofs.Laying.{laying-none, ends, layer-asked, laying-next}
use Rattle.join_writer.proofs.rows.write_layers.Goals as goal

pub loop-x-init : goal.loop-x-init
loop-x-init c = laying-none c.args.estate c.args.heads _ _ _ c.requires

pub overflow_add-end_first : goal.overflow_add-end_first
overflow_add-end_first c = omega (arith, ((ends c.args.estate c.args.heads c.args.first.now c.args.second.now c.args.third.now c.requires c.loop-x.invariant c.loop-x-test.true)).0, c.well_formed)

pub overflow_add-end_second : goal.overflow_add-end_second
overflow_add-end_second c = omega (arith, ((ends c.args.estate c.args.heads c.args.first.now c.args.second.now c.args.third.now c.requires c.loop-x.invariant c.loop-x-test.true)).1, c.well_formed)

pub overflow_add-end_third : goal.overflow_add-end_third
overflow_add-end_third c = omega (arith, ((ends c.args.estate c.args.heads c.args.first.now c.args.second.now c.args.third.now c.requires c.loop-x.invariant c.loop-x-test.true)).2, c.well_formed)

pub slice_bounds-write_layer-end : goal.slice_bounds-write_layer-end
slice_bounds-write_layer-end c = omega (arith, ((ends c.args.estate c.args.heads c.args.first.now c.args.second.now c.args.third.now c.requires c.loop-x.invariant c.loop-x-test.true)).0)

pub slice_bounds-write_layer-end-in-loop-x : goal.slice_bounds-write_layer-end-in-loop-x
slice_bounds-write_layer-end-in-loop-x c = omega (arith, ((ends c.args.estate c.args.heads c.args.first.now c.args.second.now c.args.third.now c.requires c.loop-x.invariant c.loop-x-test.true)).1)

pub slice_bounds-write_layer-end-in-loop-x-2 : goal.slice_bounds-write_layer-end-in-loop-x-2
slice_bounds-write_layer-end-in-loop-x-2 c = omega (arith, ((ends c.args.estate c.args.heads c.args.first.now c.args.second.now c.args.third.now c.requires c.loop-x.invariant c.loop-x-test.true)).2)

pub write_layer-at-requires : goal.write_layer-at-requires
write_layer-at-requires c = let w = layer-asked c.args.estate c.args.heads c.args.first.now c.args.second.now c.args.third.now c.requires c.loop-x.invariant c.loop-x-test.true in record { layer_fits = w.0; third_in_bounds = w.1 }

pub loop-x-preserved : goal.loop-x-preserved
loop-x-preserved c =
    laying-next c.args.estate c.args.heads c.args.first.now c.args.second.now c.args.third.now c.requires c.loop-x.invariant c.loop-x-test.true
    c.write_layer-at.ensures.0 c.write_layer-at.ensures.1
