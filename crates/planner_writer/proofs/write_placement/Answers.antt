-- `planner_writer::write_placement` meets its contract: the two numbers of each layer, the figure and the head are the
-- placement's, and the rows follow the head. Assumes nothing.
use native.Mathlib.Omega.{arith}
use Rattle.planner.proofs.Committed.{HeadMade, HeadWritten, shares-fit, figure-limits, head-limits, rows_fit, rows-limits, answer-is, output-is}
use Rattle.planner_writer.proofs.write_placement.Goals as goal
use Rattle.planner_writer.proofs.write_placement.Goals.{After-figure_of-figure, After-write_head-at}

-- the head's numbers are the placement's
made : (c : After-figure_of-figure)
    → HeadMade c.args.base c.args.layers c.args.blocks.now c.args.order c.args.counts c.split_heads-heads.result c.figure_of-figure.result c.args.out.now
made c =
    record {
      writable = c.requires.writable;
      room = c.requires.r_in_bounds;
      heads-are = c.split_heads-heads.ensures;
      figure-is = c.figure_of-figure.ensures;
    }

-- the head is written
written : (c : After-write_head-at)
    → HeadWritten c.args.base c.args.layers c.args.blocks.now c.args.order c.args.counts c.split_heads-heads.result c.figure_of-figure.result c.args.out.now
    c.write_head-at.new.out c.write_head-at.result
written c =
    record {
      head-made = record {
        writable = c.requires.writable;
        room = c.requires.r_in_bounds;
        heads-are = c.split_heads-heads.ensures;
        figure-is = c.figure_of-figure.ensures;
      };
      head_bytes = c.write_head-at.ensures;
    }

pub split_heads-heads-requires : goal.split_heads-heads-requires
split_heads-heads-requires c = shares-fit c.requires.writable

pub figure_of-figure-requires : goal.figure_of-figure-requires
figure_of-figure-requires c = let w = figure-limits c.requires.writable c.split_heads-heads.ensures in record { s_bound = w.0; all = w.1 }

pub write_head-at-requires : goal.write_head-at-requires
write_head-at-requires c =
    let w = head-limits (made (goal.at.write_head-at-requires c).After-figure_of-figure) in
    record { count_bound = w.0; s_bound = w.1.0; all = w.1.1.0; heads_in_bounds = w.1.1.1 }

pub slice_bounds-write_layers-count : goal.slice_bounds-write_layers-count
slice_bounds-write_layers-count c = omega (arith, rows_fit (written (goal.at.slice_bounds-write_layers-count c).After-write_head-at))

pub slice_bounds-write_layers-start : goal.slice_bounds-write_layers-start
slice_bounds-write_layers-start c = omega (arith, rows_fit (written (goal.at.slice_bounds-write_layers-start c).After-write_head-at))

pub write_layers-requires : goal.write_layers-requires
write_layers-requires c = rows-limits (written (goal.at.write_layers-requires c).After-write_head-at)

pub overflow_mul-result : goal.overflow_mul-result
overflow_mul-result c = omega (arith, rows_fit (written (goal.at.overflow_mul-result c).After-write_head-at))

pub overflow_add-result : goal.overflow_add-result
overflow_add-result c = omega (arith, rows_fit (written (goal.at.overflow_add-result c).After-write_head-at))

pub returns : goal.returns
returns c =
    let head = written (goal.at.returns c).After-write_head-at in
    (answer-is head c.write_layers.new.out c.write_layers.ensures, output-is head c.write_layers.new.out c.write_layers.ensures)
