-- `split_lines::raise_line` meets its contract: where a copy is of no use, the records alone give the line. Assumes nothing.
use Rattle.split_lines.proofs.Raising.{raised-by-records, raised-repeated}
use native.Mathlib.Omega.{arith}
use Rattle.split_lines.proofs.raise_line.Goals as goal

pub returns-then-each-lt8192 : goal.returns-then-each-lt8192
returns-then-each-lt8192 c =
    raised-by-records c.requires.0 c.requires.1 (omega (arith, c.min.ensures, c.if-costs-min.false)) c.raise_by_records.ensures

pub returns-else-each-lt8192 : goal.returns-else-each-lt8192
returns-else-each-lt8192 c =
    raised-repeated c.requires.0 c.requires.1 (omega (arith, c.min.ensures, c.if-costs-min.false)) (omega (arith, c.if-each-lt8192.false))
    c.repeat_line.ensures
