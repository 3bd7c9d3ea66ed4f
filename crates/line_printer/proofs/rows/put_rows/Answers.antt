use Rattle.line_printer.proofs.Turns.{rows_all, rows_next}
use Rattle.line_printer.proofs.rows.put_rows.Goals as goal

pub loop-j-preserved : goal.loop-j-preserved
loop-j-preserved c =
    rows_next c.args.rows.now c.args.m c.args.r c.args.out.now c.args.at c.loop-j.invariant c.loop-j-test.true c.put_row-place.ensures

pub returns : goal.returns
returns c =
    rows_all c.args.rows.now c.args.m c.args.r c.args.out.now c.args.at c.loop-j.invariant c.loop-j-test.false
