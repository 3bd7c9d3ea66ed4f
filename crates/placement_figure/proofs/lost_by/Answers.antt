-- `placement_figure::lost_by` meets its contract: the nested floors as the other function gives them, or one floor of
-- binomials, the first product being below 2^63. Assumes nothing.
use Prim.Native.Nat.{◌+◌}
use native.Mathlib.Omega.{arith}
use native.Mathlib.Numerals.{add-one}
use borrow.Author.Rules.{rules}
use Rattle.binomial.proofs.Laws.{choose-positive, mul-choose-lt}
use Rattle.placement.specs.Figure.{lost_by}
use Rattle.placement_figure.proofs.lost_by.Goals as goal

pub returns-in-NestedFloors : goal.returns-in-NestedFloors
unfolding lost_by
returns-in-NestedFloors c = rw c.in-NestedFloors.is c.floors_down.ensures

pub overflow_mul-result : goal.overflow_mul-result
overflow_mul-result c =
    let h = mul-choose-lt c.args.lambda c.args.k (c.args.x + 1) (omega arith) (omega arith) (omega arith) in
    let fits = rw (← c.binomial-above.ensures) at h in
    search rules

pub nonzero_div-result : goal.nonzero_div-result
nonzero_div-result c =
    let h = choose-positive c.args.s (c.args.x + 1) (omega arith) in
    let one = rw (← c.binomial-below.ensures) at h in
    search rules

pub returns : goal.returns
unfolding lost_by
returns c =
    rw (c.in_default.is, c.binomial-above.ensures, c.binomial-below.ensures, add-one c.args.x)
