-- `replay_opening::begin` meets its contract: the refusal of the placement's check, or its records listed. Assumes nothing.
use native.Mathlib.Omega.{arith}
use mathlib.Core.Path.{◌∙◌}
use Rattle.worst.proofs.Call.{worst-inside, worst-asked, fed-asked}
use Rattle.worst.proofs.Filling.{bytes_most}
use Rattle.replay.proofs.Parts.{length-index}
use Rattle.replay.proofs.Begin.{begun-refused, begun-accepted, begun-fed}
use Rattle.replay_opening.proofs.begin.Goals as goal

pub overflow_mul-end : goal.overflow_mul-end
overflow_mul-end c =
    omega (arith, worst-inside _ c.check_placement-check.ensures c.in-Ok.is, c.well_formed)

pub overflow_add-end : goal.overflow_add-end
overflow_add-end c =
    omega (arith, worst-inside _ c.check_placement-check.ensures c.in-Ok.is, c.well_formed)

pub slice_bounds-list_records-end : goal.slice_bounds-list_records-end
slice_bounds-list_records-end c =
    omega (arith, worst-inside _ c.check_placement-check.ensures c.in-Ok.is, c.well_formed)

pub slice_bounds-list_records-end-then-g-eq0 : goal.slice_bounds-list_records-end-then-g-eq0
slice_bounds-list_records-end-then-g-eq0 c =
    omega (arith, c.requires.0)

pub list_records-requires : goal.list_records-requires
list_records-requires c =
    let asked = worst-asked _ c.check_placement-check.ensures c.in-Ok.is c.if-g-eq0.true in
    record { rows_len = (asked.whole, asked.r-most, asked.b-most); rows_in_bounds = omega (arith, asked.whole, bytes_most _ _ asked.b-most asked.r-most, length-index c.args.board.now c.requires.0) }

pub returns-then-g-eq0 : goal.returns-then-g-eq0
returns-then-g-eq0 c =
    begun-accepted _ c.check_placement-check.ensures c.args.board.now _ c.requires.0 c.requires.1
    (c.board-1.given.0 ∙ length-index c.args.board.now c.requires.0) c.in-Ok.is
    c.if-g-eq0.true c.list_records.ensures

pub slice_bounds-list_by_feeder-end : goal.slice_bounds-list_by_feeder-end
slice_bounds-list_by_feeder-end c =
    omega (arith, worst-inside _ c.check_placement-check.ensures c.in-Ok.is, c.well_formed)

pub slice_bounds-list_by_feeder-end-in-Ok : goal.slice_bounds-list_by_feeder-end-in-Ok
slice_bounds-list_by_feeder-end-in-Ok c =
    omega (arith, c.requires.0)

pub list_by_feeder-requires : goal.list_by_feeder-requires
list_by_feeder-requires c =
    let asked = fed-asked _ c.check_placement-check.ensures c.in-Ok.is c.if-g-eq0.false in
    record { feeders_asked = asked; rows_in_bounds = omega (arith, asked.inside, bytes_most _ _ asked.asked.b-most asked.asked.r-most, length-index c.args.board.now c.requires.0) }

pub returns-in-Err : goal.returns-in-Err
returns-in-Err c =
    begun-refused _ c.check_placement-check.ensures _ c.requires.0 c.in-Err.is

pub returns-else-g-eq0 : goal.returns-else-g-eq0
returns-else-g-eq0 c =
    begun-fed _ c.check_placement-check.ensures c.args.board.now _ c.requires.0 c.requires.1
    (c.board-in-Ok-1.given.0 ∙ length-index c.args.board.now c.requires.0) c.in-Ok.is
    c.if-g-eq0.false c.list_by_feeder.ensures
