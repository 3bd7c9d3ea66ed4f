-- `reader::read_log` meets its contract: line after line, those that are left answer for the whole. Assumes nothing.
use Prim.Native.Nat.{◌<◌}
use lib.ListN.{length}
use Rattle.logs.specs.Reading.{text_most}
use Rattle.logs_code.proofs.Turns.{LogTurn}
use Rattle.logs_code.proofs.reader.read_log.Given as goal

abbrev pub invariant-loop-i : goal.invariant-loop-i
invariant-loop-i l = (length l.text < text_most) × LogTurn l.text l.events l.count (length l.yielded)
