-- `line_printer::rows::put_out` meets its contract. Assumes nothing.
use Rattle.line_printer.proofs.Turns.{out_none}
use Rattle.line_printer.proofs.rows.put_out.Goals as goal

pub returns-then-count-eq0 : goal.returns-then-count-eq0
returns-then-count-eq0 c =
    out_none c.args.dark c.if-count-eq0.true c.args.out.now c.args.at
