use native.Mathlib.Omega.{arith}
use Rattle.crowding_pairs.proofs.Turns.{turns-start, bytes-five, turn-fits, turn-next, turns-all}
use Rattle.crowding_sums.specs.Sums.{in_cell}
use Rattle.crowding_sums.proofs.Leaving.{leaving-ten}
use Rattle.crowding_sums.proofs.Turning.{turn-room}
use Rattle.crowding_sums.proofs.rows.count_rows.Goals as goal

pub loop-i-init : goal.loop-i-init
loop-i-init c = turns-start c.requires.zeros

pub overflow_add-end : goal.overflow_add-end
overflow_add-end c = omega (arith, turn-fits c.loop-i.invariant c.requires.look.fit c.loop-i-test.true)

pub slice_bounds-count_row-end : goal.slice_bounds-count_row-end
slice_bounds-count_row-end c = omega (arith, turn-fits c.loop-i.invariant c.requires.look.fit c.loop-i-test.true)

pub count_row-requires : goal.count_row-requires
count_row-requires c =
    record { d_bound = omega (arith, c.requires.look.three, c.requires.look.fit.five); room = turn-room c.loop-i.invariant c.requires c.loop-i-test.true }

pub loop-i-preserved : goal.loop-i-preserved
loop-i-preserved c =
    let fit = c.requires.look.fit in
    turn-next c.loop-i.invariant fit c.loop-i-test.true
    (λ p. leaving-ten c.args.weights.now (in_cell p) c.args.d _ _ (omega (arith, c.requires.look.three, fit.five))
    (bytes-five c.loop-i.invariant fit c.loop-i-test.true)) c.count_row.ensures

pub returns : goal.returns
returns c = turns-all c.loop-i.invariant c.loop-i-test.false
