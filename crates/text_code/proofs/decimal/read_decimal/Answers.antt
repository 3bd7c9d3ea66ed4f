use native.Mathlib.Omega.{arith}
use mathlib.Core.Path.{sym, ◌∙◌, ap}
use Rattle.number.specs.Answers.{number_read}
use Rattle.text.proofs.Decimal.{digit-inside, digits-holds, digits-all, digits-end, digits-fit, digits-again}
use Rattle.text_code.proofs.decimal.read_decimal.Goals as goal

pub loop-digits-init : goal.loop-digits-init
loop-digits-init c = digits-holds _ _

pub returns-then-digit-gt9 : goal.returns-then-digit-gt9
returns-then-digit-gt9 c =
    c.end_digits.ensures
    ∙ sym (ap number_read (digits-end c.loop-digits.invariant c.loop-digits-test.true (rw c.digit_at-digit.ensures at c.if-digit-gt9.true)))

pub overflow_mul-value : goal.overflow_mul-value
overflow_mul-value c = omega (arith, digits-fit c.loop-digits.invariant c.loop-digits-test.true)

pub overflow_add-value : goal.overflow_add-value
overflow_add-value c = omega (arith, c.if-digit-gt9.false, digits-fit c.loop-digits.invariant c.loop-digits-test.true)

pub overflow_add-place : goal.overflow_add-place
overflow_add-place c =
    omega (arith, digit-inside c.args.text.now c.loop-digits.place (rw c.digit_at-digit.ensures at c.if-digit-gt9.false), c.well_formed.0.0)

pub loop-digits-preserved : goal.loop-digits-preserved
loop-digits-preserved c =
    rw c.digit_at-digit.ensures
    (digits-again c.loop-digits.invariant c.loop-digits-test.true (rw c.digit_at-digit.ensures at c.if-digit-gt9.false))

pub returns : goal.returns
returns c = c.end_digits-2.ensures ∙ sym (ap number_read (digits-all c.loop-digits.invariant c.loop-digits-test.false))
