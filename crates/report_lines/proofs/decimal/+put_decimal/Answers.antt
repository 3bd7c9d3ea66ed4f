use Rattle.report_lines.proofs.decimal.Decimal.{decimal-small, decimal-length-large, put_small, put-large}
use lib.ListN.{length, length-set}
use mathlib.Core.Path.{ap, ◌∙◌}
use native.Mathlib.Omega.{arith}
use Rattle.report_lines.proofs.decimal.+put_decimal.Goals as goal

pub bounds-out-at : goal.bounds-out-at
bounds-out-at t c =
    omega (arith, c.requires, ap length (decimal-small c.args.n c.if-n-lt10.true))

pub overflow_add-result : goal.overflow_add-result
overflow_add-result t c = omega (arith, c.well_formed.0.0, (bounds-out-at t c))

pub returns-then-n-lt10 : goal.returns-then-n-lt10
returns-then-n-lt10 t c = put_small _ _ _ c.if-n-lt10.true

pub put_decimal-last-requires : goal.put_decimal-last-requires
put_decimal-last-requires t c =
    let large = c.if-n-lt10.false in (
      omega (arith, c.decreases),
      omega (arith, c.requires, decimal-length-large c.args.n large c.ranges.n.fits),
    )

pub bounds-out-last : goal.bounds-out-last
bounds-out-last t c =
    omega (
      arith,
      c.requires,
      c.put_decimal-last.auto.out,
      c.put_decimal-last.ensures.ends,
      decimal-length-large c.args.n c.if-n-lt10.false c.ranges.n.fits,
    )

pub overflow_add-result-2 : goal.overflow_add-result-2
overflow_add-result-2 t c = omega (arith, c.well_formed.0.0, (bounds-out-last t c))

pub shape_of-out : goal.shape_of-out
shape_of-out t c = length-set c.put_decimal-last.new.out _ _ ∙ c.put_decimal-last.auto.out

pub returns : goal.returns
returns t c =
    put-large _ _ _ _ _ c.if-n-lt10.false c.ranges.n.fits c.put_decimal-last.ensures
