-- `report_check::line::largest_load` meets its contract: the load of layer 0 where it has all rows, and else a count. Assumes nothing.
use native.Mathlib.Omega.{arith}
use mathlib.Core.Path.{◌≡◌, ◌∙◌}
use lib.ListN.{length-drop}
use Rattle.lists.proofs.Writing.{take-drop-rest}
use Rattle.packing.proofs.Load.{most-all}
use Rattle.report_check.specs.Load.{rows_of}
use Rattle.report_check.proofs.line.largest_load.Goals as goal

pub returns-then-size-b : goal.returns-then-size-b
returns-then-size-b c =
    let all : c.args.size ≡ c.args.head.b = c.if-size-b.true in
    c.requires.handed c.if-head-ne6.true
    ∙ rw all (most-all c.args.head.n (rows_of c.args.input.now c.args.head c.args.head.b) c.requires.ordered (omega (arith, c.requires.n-most)))

pub slice_bounds-most_load-count : goal.slice_bounds-most_load-count
slice_bounds-most_load-count c = omega (arith, c.requires.within)

pub slice_bounds-most_load-start : goal.slice_bounds-most_load-start
slice_bounds-most_load-start c = omega (arith, c.requires.within)

pub most_load-requires : goal.most_load-requires
most_load-requires c =
    record {
      c_bound = rw (take-drop-rest c.args.input.now c.args.head.first, length-drop c.args.head.first c.args.input.now)
          (c.requires.b-most, c.requires.r-most, omega (arith, c.requires.within));
      n_bound = omega (arith, c.requires.n-most);
      all = rw (take-drop-rest c.args.input.now c.args.head.first) c.requires.ordered;
    }

pub returns : goal.returns
returns c =
    rw (← take-drop-rest c.args.input.now c.args.head.first) c.most_load.ensures
