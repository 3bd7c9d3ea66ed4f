-- `report_mean::mean_load` meets its contract: b × r is at most 4,096 × 5, and each return is a case of `half_to_even`.
-- Assumes nothing.
use Prim.Native.Nat.{◌*◌}
use native.Mathlib.Omega.{arith}
use native.Mathlib.Numerals.{add-one}
use native.Mathlib.Nat.{mul-le-mul, mod-lt, div-le_self}
use borrow.Author.Tests.{lt-ltb, le-ltb}
use Rattle.report.specs.Load.{half_to_even}
use Rattle.report_mean.proofs.mean_load.Goals as goal

pub overflow_mul-total : goal.overflow_mul-total
overflow_mul-total c =
    omega (arith, (mul-le-mul c.requires.0 c.requires.1))

pub overflow_mul-twice : goal.overflow_mul-twice
overflow_mul-twice c =
    omega (arith, (mod-lt (c.args.b * c.args.r) c.requires.2), c.requires)

pub returns-then-twice-n : goal.returns-then-twice-n
unfolding half_to_even
returns-then-twice-n c =
    rw (lt-ltb _ _ c.if-twice-n.true)

pub overflow_add-result : goal.overflow_add-result
overflow_add-result c =
    omega (arith, (mul-le-mul c.requires.0 c.requires.1), (div-le_self (c.args.b * c.args.r) c.args.n))

pub returns-then-n-twice : goal.returns-then-n-twice
unfolding half_to_even
returns-then-n-twice c =
    rw (add-one, le-ltb _ _ c.if-twice-n.false, lt-ltb _ _ c.if-n-twice.true)

pub overflow_add-result-2 : goal.overflow_add-result-2
overflow_add-result-2 c =
    omega (arith, (mul-le-mul c.requires.0 c.requires.1), (div-le_self (c.args.b * c.args.r) c.args.n))

pub returns : goal.returns
unfolding half_to_even
returns c =
    rw (le-ltb _ _ c.if-twice-n.false, le-ltb _ _ c.if-n-twice.false)
