-- `table_reader::reader::read_text` meets its contract. The loop: the lines that are left answer for the whole text. Assumes nothing.
use mathlib.Core.Path.{◌≡◌}
use lib.ListN.{length}
use Rattle.table_reader.proofs.Walking.{ReadTurn}
use Rattle.table_reader.proofs.reader.read_text.Given as goal

abbrev pub invariant-loop-bytes : goal.invariant-loop-bytes
invariant-loop-bytes l =
    (length l.numbers ≡ length l.initial.numbers) × (length l.rows ≡ length l.initial.rows) × (length l.lines ≡ length l.initial.lines)
    × ReadTurn l.text l.numbers l.rows l.lines (record { n = l.n; r = l.r; count = l.count; layers = l.layers; blocks = l.blocks; place = l.place }) l.line
    × (l.line ≡ length l.yielded)
