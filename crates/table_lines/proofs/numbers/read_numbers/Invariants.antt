-- `table_lines::numbers::read_numbers` meets its contract. The loop: what is left of the line answers for the whole. Assumes nothing.
use mathlib.Core.Path.{◌≡◌}
use lib.ListN.{length}
use Rattle.table_lines.proofs.Turns.{NumberTurn}
use Rattle.table_lines.proofs.numbers.read_numbers.Given as goal

abbrev pub invariant-loop-byte : goal.invariant-loop-byte
invariant-loop-byte l = (length l.numbers ≡ length l.initial.numbers) × NumberTurn l.line l.numbers l.byte-index l.digits l.value l.found
