-- `line_printer::rows::put_listed` meets its contract. Assumes nothing.
use native.Mathlib.Omega.{arith}
use Rattle.line_printer.proofs.Turns.{out-put}
use Rattle.line_printer.proofs.rows.put_listed.Goals as goal

pub returns : goal.returns
returns c =
    out-put c.args.nodes c.args.count c.requires.count_nonzero (omega (arith, c.requires.count_bound)) c.put_line.ensures
