-- `line_printer::parts::put_row` meets its contract. Assumes nothing.
use native.Mathlib.Omega.{arith}
use mathlib.Core.Path.{ap}
use lib.ListN.{length}
use Rattle.line_printer.proofs.Turns.{row-part, row_put}
use Rattle.line_printer.proofs.parts.put_row.Goals as goal

pub put_rest-requires : goal.put_rest-requires
put_rest-requires c =
    omega (arith, ap length (row-part c.args.row.now _ c.row_numbers-numbers.ensures), c.requires.row_len_bound, c.requires.at_in_bounds)

pub returns : goal.returns
returns c =
    row_put c.args.row.now _ c.row_numbers-numbers.ensures c.put_rest.ensures
