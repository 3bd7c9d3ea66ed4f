-- `line_printer::parts::row_numbers` meets its contract. The loop: the nodes before place i are there. Assumes nothing.
use mathlib.Core.Path.{◌≡◌}
use lib.ListN.{length, take}
use Rattle.line_printer.proofs.parts.row_numbers.Given as goal

abbrev pub invariant-loop-i : goal.invariant-loop-i
invariant-loop-i l = (length l.numbers ≡ 5) × (take l.i l.numbers ≡ take l.i l.row)
