-- `planner_writer::head::write_head` meets its contract: what every file with a list begins with, and its own numbers after it. Assumes nothing.
use native.Mathlib.Omega.{arith}
use lib.ListN.{take}
use Rattle.layers.specs.Written.{start_numbers}
use Rattle.planner.specs.Writing.{own_numbers}
use Rattle.layers.proofs.TwoParts.{first-asked, second_fits, second-asked, both-fit, both-written}
use Rattle.planner_writer.proofs.head.write_head.Goals as goal

pub write_base-at-requires : goal.write_base-at-requires
write_base-at-requires c =
    let w = first-asked (start_numbers 5 c.args.base) (own_numbers c.args.order c.args.figure (take c.args.order.s c.args.heads)) c.args.out.now c.requires.all c.requires.heads_in_bounds in record { count_bound = c.requires.count_bound; all = w.0; base_in_bounds = w.1 }

pub slice_bounds-write_own-count : goal.slice_bounds-write_own-count
slice_bounds-write_own-count c =
    omega (arith, second_fits (start_numbers 5 c.args.base) (own_numbers c.args.order c.args.figure (take c.args.order.s c.args.heads)) c.args.out.now c.requires.all c.requires.heads_in_bounds c.write_base-at.ensures)

pub slice_bounds-write_own-start : goal.slice_bounds-write_own-start
slice_bounds-write_own-start c =
    omega (arith, second_fits (start_numbers 5 c.args.base) (own_numbers c.args.order c.args.figure (take c.args.order.s c.args.heads)) c.args.out.now c.requires.all c.requires.heads_in_bounds c.write_base-at.ensures)

pub write_own-more-requires : goal.write_own-more-requires
write_own-more-requires c =
    let w = second-asked (start_numbers 5 c.args.base) (own_numbers c.args.order c.args.figure (take c.args.order.s c.args.heads)) c.args.out.now c.requires.all c.requires.heads_in_bounds c.write_base-at.ensures in record { s_bound = c.requires.s_bound; all = w.0; heads_in_bounds = w.1 }

pub overflow_add-result : goal.overflow_add-result
overflow_add-result c =
    omega (arith, both-fit (start_numbers 5 c.args.base) (own_numbers c.args.order c.args.figure (take c.args.order.s c.args.heads)) c.args.out.now c.requires.all c.requires.heads_in_bounds c.write_base-at.ensures c.write_own-more.ensures, c.well_formed)

pub returns : goal.returns
returns c =
    both-written (start_numbers 5 c.args.base) (own_numbers c.args.order c.args.figure (take c.args.order.s c.args.heads)) c.args.out.now c.requires.all c.requires.heads_in_bounds c.write_base-at.ensures c.write_own-more.ensures
