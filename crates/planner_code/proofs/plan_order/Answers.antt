-- `planner_code::plan_order` meets its contract: the chosen counts are the named split's, and its placement is written.
-- Assumes nothing.
use Rattle.planner_code.proofs.Chosen.{choose-limits, writable, named-done}
use Rattle.planner_code.proofs.plan_order.Goals as goal

pub choose_counts-counts-requires : goal.choose_counts-counts-requires
choose_counts-counts-requires c =
    choose-limits c.requires.pack_held c.requires.fits

pub write_placement-answer-requires : goal.write_placement-answer-requires
write_placement-answer-requires c =
    record { writable = writable c.requires.pack_held c.requires.fits c.choose_counts-counts.ensures; r_in_bounds = c.requires.fits.output-fits }

pub returns : goal.returns
returns c =
    named-done c.requires.pack_held c.requires.fits c.choose_counts-counts.ensures c.write_placement-answer.ensures
