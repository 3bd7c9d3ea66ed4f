use mathlib.Core.Path.{refl}
use Rattle.logs_code.proofs.Places.{no_digit, digits-none, digits-all, digit_low, digit-high, digit-large, digit-next}
use native.Mathlib.Omega.{arith}
use Rattle.logs_code.proofs.words.number_of.Goals as goal

pub returns-then-word-eq0 : goal.returns-then-word-eq0
returns-then-word-eq0 c = no_digit _ c.if-word-eq0.true

pub loop-byte-init : goal.loop-byte-init
loop-byte-init c = digits-none _ c.if-word-eq0.false

pub returns-then-byte-lt48 : goal.returns-then-byte-lt48
returns-then-byte-lt48 c =
    digit_low _ c.loop-byte.invariant c.loop-byte-test.true (rw c.from-byte.ensures at c.if-byte-lt48.true)

pub returns-then-byte-gt57 : goal.returns-then-byte-gt57
returns-then-byte-gt57 c =
    digit-high _ c.loop-byte.invariant c.loop-byte-test.true (rw c.from-byte.ensures at c.if-byte-lt48.false) (rw c.from-byte.ensures at c.if-byte-gt57.true)

pub overflow_mul-value : goal.overflow_mul-value
overflow_mul-value c = omega (arith, c.loop-byte.invariant.small)

pub overflow_add-value : goal.overflow_add-value
overflow_add-value c = omega (arith, c.loop-byte.invariant.small, c.if-byte-gt57.false)

pub returns-then-value-gt4294967295 : goal.returns-then-value-gt4294967295
returns-then-value-gt4294967295 c =
    digit-large _ c.loop-byte.invariant c.loop-byte-test.true (rw c.from-byte.ensures at c.if-byte-lt48.false) (rw c.from-byte.ensures at c.if-byte-gt57.false) (rw c.from-byte.ensures refl) c.if-value-gt4294967295.true

pub loop-byte-preserved : goal.loop-byte-preserved
loop-byte-preserved c =
    digit-next _ c.loop-byte.invariant c.loop-byte-test.true (rw c.from-byte.ensures at c.if-byte-lt48.false) (rw c.from-byte.ensures at c.if-byte-gt57.false) (rw c.from-byte.ensures refl) c.if-value-gt4294967295.false

pub overflow_cast-result : goal.overflow_cast-result
overflow_cast-result c = omega (arith, c.loop-byte.invariant.small)

pub returns : goal.returns
returns c = digits-all _ c.loop-byte.invariant c.loop-byte-test.false
