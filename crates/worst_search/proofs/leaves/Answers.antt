-- `worst_search::leaves` meets its contract: the smaller of the two is taken off for a difference that ends at 0. Assumes nothing.
use Prim.Native.Nat.{◌-◌}
use native.Mathlib.Omega.{arith}
use mathlib.Core.Path.{◌≡◌, ap}
use lib.Dec.{leb}
use Rattle.worst_search.proofs.leaves.Goals as goal

pub overflow_sub-result : goal.overflow_sub-result
overflow_sub-result c = omega (arith, c.min.ensures)

pub returns : goal.returns
returns c =
    let same : c.args.usable - c.min.result ≡ c.args.usable - c.args.loss = omega (arith, c.min.ensures) in
    ap (leb c.args.least) same
