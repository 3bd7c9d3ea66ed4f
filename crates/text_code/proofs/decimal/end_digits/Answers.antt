-- `text_code::decimal::end_digits` meets its contract. Assumes nothing.
use native.Mathlib.Omega.{arith}
use Rattle.text.proofs.Decimal.{end_empty, end-past, end-other, end-number}
use Rattle.text_code.proofs.decimal.end_digits.Goals as goal

pub returns-then-at-start : goal.returns-then-at-start
returns-then-at-start c = let a = c.args in end_empty a.text.now a.start a.at a.value c.if-at-start.true

pub returns-then-text-at : goal.returns-then-text-at
returns-then-text-at c = let a = c.args in end-past a.text.now a.start a.at a.value c.if-at-start.false c.if-text-at.true

pub overflow_cast-byte : goal.overflow_cast-byte
overflow_cast-byte c = omega (arith, c.type_inv.text c.args.at)

pub returns-then-byte-gt0 : goal.returns-then-byte-gt0
returns-then-byte-gt0 c =
    let a = c.args in
    end-other a.text.now a.start a.at a.value c.if-at-start.false c.if-text-at.false c.if-byte-gt0.true

pub returns : goal.returns
returns c =
    let a = c.args in
    end-number a.text.now a.start a.at a.value c.if-at-start.false c.if-text-at.false c.if-byte-gt0.false
