use native.Mathlib.Omega.{arith}
use Rattle.planner.proofs.Layering.{layers-none, layer_fits, blocks-within, lent-fit, layers-next}
use Rattle.planner_writer.proofs.rows.write_layers.Goals as goal

pub loop-x-init : goal.loop-x-init
loop-x-init c = layers-none _ _ _ _ _ _

pub slice_bounds-write_rows-count : goal.slice_bounds-write_rows-count
slice_bounds-write_rows-count c = omega (arith, (layer_fits c.loop-x.invariant c.requires c.loop-x-test.true))

pub slice_bounds-write_rows-start : goal.slice_bounds-write_rows-start
slice_bounds-write_rows-start c = omega (arith, (layer_fits c.loop-x.invariant c.requires c.loop-x-test.true))

pub slice_bounds-write_rows-count-in-loop-x : goal.slice_bounds-write_rows-count-in-loop-x
slice_bounds-write_rows-count-in-loop-x c = omega (arith, (blocks-within c.loop-x.invariant c.requires c.loop-x-test.true))

pub slice_bounds-write_rows-start-in-loop-x : goal.slice_bounds-write_rows-start-in-loop-x
slice_bounds-write_rows-start-in-loop-x c = omega (arith, (blocks-within c.loop-x.invariant c.requires c.loop-x-test.true))

pub write_rows-requires : goal.write_rows-requires
write_rows-requires c = let w = lent-fit c.loop-x.invariant c.requires c.loop-x-test.true in record { r_in_bounds = w.0; r_in_bounds_2 = w.1.0; m_nonzero = w.1.1 }

pub overflow_mul-to : goal.overflow_mul-to
overflow_mul-to c = omega (arith, (layer_fits c.loop-x.invariant c.requires c.loop-x-test.true))

pub overflow_add-to : goal.overflow_add-to
overflow_add-to c = omega (arith, (layer_fits c.loop-x.invariant c.requires c.loop-x-test.true))

pub overflow_mul-from : goal.overflow_mul-from
overflow_mul-from c = omega (arith, (blocks-within c.loop-x.invariant c.requires c.loop-x-test.true))

pub overflow_add-from : goal.overflow_add-from
overflow_add-from c = omega (arith, (blocks-within c.loop-x.invariant c.requires c.loop-x-test.true))

pub loop-x-preserved : goal.loop-x-preserved
loop-x-preserved c =
    layers-next c.loop-x.invariant c.requires c.loop-x-test.true c.write_rows.new.out c.write_rows.ensures
