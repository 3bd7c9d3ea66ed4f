use mathlib.Core.Path.{refl, ◌∙◌}
use lib.ListN.{length-set}
use Rattle.table_lines.proofs.Turns.{turn_holds, turn-full, turn_many, turn-digit, turn-other, turn-blank, turn-push, turn-none, turn_last, tens-most}
use native.Mathlib.Omega.{arith}
use Rattle.table_lines.proofs.numbers.read_numbers.Goals as goal

pub loop-byte-init : goal.loop-byte-init
loop-byte-init c = (refl, turn_holds _ _ c.requires)

pub returns-then-digits-ge8 : goal.returns-then-digits-ge8
returns-then-digits-ge8 c =
    turn-full c.loop-byte.invariant.1 c.loop-byte-test.true c.digit_of-digit.ensures c.if-digit-lt10.true c.if-digits-ge8.true

pub returns-then-found-ge255 : goal.returns-then-found-ge255
returns-then-found-ge255 c =
    turn_many c.loop-byte.invariant.1 c.loop-byte-test.true c.digit_of-digit.ensures c.if-digit-lt10.true (omega (arith, c.if-digits-ge8.false)) c.if-found-ge255.true

pub overflow_mul-value : goal.overflow_mul-value
overflow_mul-value c =
    omega (arith, c.loop-byte.invariant.1.short, tens-most _ c.loop-byte.invariant.1.few)

pub overflow_add-value : goal.overflow_add-value
overflow_add-value c =
    omega (arith, c.loop-byte.invariant.1.short, tens-most _ c.loop-byte.invariant.1.few, c.if-digit-lt10.true)

pub loop-byte-preserved-then-digit-lt10 : goal.loop-byte-preserved-then-digit-lt10
loop-byte-preserved-then-digit-lt10 c = (
  c.loop-byte.invariant.0,
  turn-digit c.loop-byte.invariant.1 c.loop-byte-test.true c.digit_of-digit.ensures c.if-digit-lt10.true (omega (arith, c.if-digits-ge8.false)) (omega (arith, c.if-found-ge255.false)),
)

pub returns-then-digit-gt10 : goal.returns-then-digit-gt10
returns-then-digit-gt10 c =
    turn-other c.loop-byte.invariant.1 c.loop-byte-test.true c.digit_of-digit.ensures c.if-digit-gt10.true

pub loop-byte-preserved-then-digits-eq0 : goal.loop-byte-preserved-then-digits-eq0
loop-byte-preserved-then-digits-eq0 c = (
  c.loop-byte.invariant.0,
  turn-blank c.loop-byte.invariant.1 c.loop-byte-test.true c.digit_of-digit.ensures (omega (arith, c.if-digit-lt10.false)) (omega (arith, c.if-digit-gt10.false)) c.if-digits-eq0.true,
)

pub loop-byte-preserved : goal.loop-byte-preserved
loop-byte-preserved c = (
  length-set c.loop-byte.numbers _ _ ∙ c.loop-byte.invariant.0,
  turn-push c.loop-byte.invariant.1 c.loop-byte-test.true c.digit_of-digit.ensures (omega (arith, c.if-digit-lt10.false)) (omega (arith, c.if-digit-gt10.false)) (omega (arith, c.if-digits-eq0.false)),
)

pub returns-then-digits-eq0-2 : goal.returns-then-digits-eq0-2
returns-then-digits-eq0-2 c = turn-none c.loop-byte.invariant.1 c.loop-byte-test.false c.if-digits-eq0-2.true

pub returns : goal.returns
returns c = turn_last c.loop-byte.invariant.1 c.loop-byte-test.false (omega (arith, c.if-digits-eq0-2.false))
