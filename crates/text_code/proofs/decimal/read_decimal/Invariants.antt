-- `text_code::decimal::read_decimal` meets its contract. The loop's invariant: the digits that are left to read answer for the whole
-- number. Assumes nothing.
use Rattle.text.proofs.Decimal.{DigitTurn}
use Rattle.text_code.proofs.decimal.read_decimal.Given as goal

abbrev pub invariant-loop-digits : goal.invariant-loop-digits
invariant-loop-digits l = DigitTurn l.text l.at l._digits l.place l.value
