-- `report_check::line::check_line` meets its contract: the line of the refusal, or of the numbers that the placement's check
-- accepts. Assumes nothing.
use Rattle.report_check.proofs.line.Accepted.{LineOf, line-of-check, refused-of-check}
use Rattle.report_check.proofs.line.check_line.Goals as goal

pub largest_load-most-requires : goal.largest_load-most-requires
largest_load-most-requires c =
    let k = (let known-here : LineOf c.args.input.now c.in-Ok.head = line-of-check _ _ c.check_loaded-loaded.ensures.check_value c.in-Ok.is in known-here) in
    record {
      n-most = k.n-most;
      b-most = k.b-most;
      r-most = k.r-most;
      within = k.within;
      ordered = k.ordered;
      handed = c.check_loaded-loaded.ensures.handed.counted _ c.in-Ok.is;
    }

pub mean_load-mean-requires : goal.mean_load-mean-requires
mean_load-mean-requires c =
    let k = (let known-here : LineOf c.args.input.now c.in-Ok.head = line-of-check _ _ c.check_loaded-loaded.ensures.check_value c.in-Ok.is in known-here) in
    (k.b-most, k.r-most, k.n-least, k.n-most)

pub returns-in-Err : goal.returns-in-Err
returns-in-Err c =
    rw (refused-of-check _ _ c.check_loaded-loaded.ensures.check_value c.in-Err.is) c.refused_line.ensures

pub returns-in-Ok : goal.returns-in-Ok
returns-in-Ok c =
    rw (((let known-here : LineOf c.args.input.now c.in-Ok.head = line-of-check _ _ c.check_loaded-loaded.ensures.check_value c.in-Ok.is in known-here)).line, ← c.largest_load-most.ensures, ← c.mean_load-mean.ensures)
    c.accepted_line.ensures
