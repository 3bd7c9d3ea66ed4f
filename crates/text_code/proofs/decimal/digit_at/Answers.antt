-- `text_code::decimal::digit_at` meets its contract. Assumes nothing.
use native.Mathlib.Omega.{arith}
use Rattle.text.proofs.Decimal.{digit-past, digit-below, digit-above, digit-is}
use Rattle.text_code.proofs.decimal.digit_at.Goals as goal

pub returns-then-text-at : goal.returns-then-text-at
returns-then-text-at c = let a = c.args in digit-past a.text.now a.at c.if-text-at.true

pub overflow_cast-byte : goal.overflow_cast-byte
overflow_cast-byte c = omega (arith, c.type_inv.text c.args.at)

pub returns-then-byte-lt48 : goal.returns-then-byte-lt48
returns-then-byte-lt48 c = let a = c.args in digit-below a.text.now a.at c.if-byte-lt48.true

pub returns-then-byte-gt57 : goal.returns-then-byte-gt57
returns-then-byte-gt57 c = let a = c.args in digit-above a.text.now a.at c.if-byte-gt57.true

pub returns : goal.returns
returns c = let a = c.args in digit-is a.text.now a.at c.if-byte-lt48.false c.if-byte-gt57.false
