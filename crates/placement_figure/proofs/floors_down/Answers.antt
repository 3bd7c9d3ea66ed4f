use Prim.Native.Nat.{◌-◌}
use native.Mathlib.Omega.{arith}
use borrow.Author.Rules.{rules}
use Rattle.placement_figure.proofs.FloorsDown.{floors-hold, product-fits, floors-again, floors-done}
use Rattle.placement_figure.proofs.floors_down.Goals as goal

pub loop-i-init : goal.loop-i-init
loop-i-init c = floors-hold _ _ _ _ (omega arith) (omega arith)

pub overflow_mul-w : goal.overflow_mul-w
overflow_mul-w c =
    let h = product-fits _ _ _ _ _ _ (omega arith) c.loop-i.invariant (c.args.k - c.loop-i.i) (omega arith) in
    search rules

pub loop-i-preserved : goal.loop-i-preserved
loop-i-preserved c = floors-again _ _ _ _ _ _ (omega arith) c.loop-i.invariant c.loop-i-test.true

pub overflow_mul-result : goal.overflow_mul-result
overflow_mul-result c =
    let h = product-fits _ _ _ _ _ _ (omega arith) c.loop-i.invariant c.args.k (omega arith) in
    search rules

pub returns : goal.returns
returns c = floors-done _ _ _ _ _ _ (omega arith) c.loop-i.invariant (omega arith)
