-- `words::number_of` meets its contract. Assumes nothing.
use Rattle.logs_code.proofs.Places.{Digits}
use Rattle.logs_code.proofs.words.number_of.Given as goal

abbrev pub invariant-loop-byte : goal.invariant-loop-byte
invariant-loop-byte l = Digits l.word l.byte-index l.value
