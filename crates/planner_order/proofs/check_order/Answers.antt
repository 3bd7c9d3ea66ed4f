-- `planner_order::check_order` meets its contract: each return is a case of `check_order`. Assumes nothing.
use native.Mathlib.Omega.{arith}
use mathlib.Core.Path.{sym, ap}
use Rattle.refusal.specs.Checked.{verdict}
use Rattle.planner.proofs.Checks.{s-low, s-high, k-low, k-high, b-low, b-high, order-good}
use Rattle.planner_order.proofs.check_order.Goals as goal

pub returns-then-s-lt1 : goal.returns-then-s-lt1
returns-then-s-lt1 c = sym (ap verdict (s-low _ _ _ (omega arith)))

pub returns-then-r-s : goal.returns-then-r-s
returns-then-r-s c = sym (ap verdict (s-high _ _ _ (omega arith) (omega arith)))

pub returns-then-k-s : goal.returns-then-k-s
returns-then-k-s c = sym (ap verdict (k-low _ _ _ (omega arith) (omega arith) (omega arith)))

pub returns-then-n-k : goal.returns-then-n-k
returns-then-n-k c = sym (ap verdict (k-high _ _ _ (omega arith) (omega arith) (omega arith) (omega arith)))

pub returns-then-b-lt1 : goal.returns-then-b-lt1
returns-then-b-lt1 c = sym (ap verdict (b-low _ _ _ (omega arith) (omega arith) (omega arith) (omega arith) (omega arith)))

pub returns-then-b-gt4096 : goal.returns-then-b-gt4096
returns-then-b-gt4096 c =
    sym (ap verdict (b-high _ _ _ (omega arith) (omega arith) (omega arith) (omega arith) (omega arith) (omega arith)))

pub returns : goal.returns
returns c =
    sym
    (ap verdict
    (order-good _ _ _
    (record {
      s-least = omega arith;
      s-most = omega arith;
      k-least = omega arith;
      k-most = omega arith;
      b-least = omega arith;
      b-most = omega arith;
    })))
