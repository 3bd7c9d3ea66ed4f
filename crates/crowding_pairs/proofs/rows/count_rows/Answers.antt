use native.Mathlib.Omega.{arith}
use Rattle.crowding_pairs.proofs.Turns.{coded-ten, turns-start, bytes-five, turn-fits, turn-room, turn-next, turns-all}
use Rattle.crowding_pairs.proofs.rows.count_rows.Goals as goal

pub loop-i-init : goal.loop-i-init
loop-i-init c = turns-start c.requires.empty.none

pub overflow_add-end : goal.overflow_add-end
overflow_add-end c = omega (arith, turn-fits c.loop-i.invariant ((c)).requires.fit c.loop-i-test.true)

pub slice_bounds-count_row-end : goal.slice_bounds-count_row-end
slice_bounds-count_row-end c = omega (arith, turn-fits c.loop-i.invariant ((c)).requires.fit c.loop-i-test.true)

pub count_row-requires : goal.count_row-requires
count_row-requires c =
    turn-room c.loop-i.invariant ((c)).requires c.loop-i-test.true

pub loop-i-preserved : goal.loop-i-preserved
loop-i-preserved c =
    let turn = c.loop-i.invariant in
    let fit = ((c)).requires.fit in
    turn-next turn fit c.loop-i-test.true (λ p. coded-ten p _ (bytes-five turn fit c.loop-i-test.true))
    c.count_row.ensures

pub returns : goal.returns
returns c = turns-all c.loop-i.invariant c.loop-i-test.false
