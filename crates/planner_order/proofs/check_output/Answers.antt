-- `planner_order::check_output` meets its contract. Assumes nothing.
use Prim.Native.Nat.{ℕ, ◌*◌, ◌≤◌}
use native.Mathlib.Omega.{arith}
use native.Mathlib.Nat.{mul-le-mul}
use mathlib.Core.Path.{sym, ap}
use Rattle.refusal.specs.Checked.{verdict}
use Rattle.planner.proofs.Checks.{output-short, output-good}
use Rattle.planner_order.proofs.check_output.Goals as goal

-- the rows' bytes are few
few : (b r : ℕ) → (b ≤ 4_096) × (r ≤ 5) → b * r ≤ 20_480
few b r h = mul-le-mul h.0 h.1

pub overflow_mul-needed : goal.overflow_mul-needed
overflow_mul-needed c = omega (arith, few _ _ c.requires)

pub overflow_add-needed : goal.overflow_add-needed
overflow_add-needed c = omega (arith, few _ _ c.requires)

pub returns-then-output-needed : goal.returns-then-output-needed
returns-then-output-needed c = sym (ap verdict (output-short _ _ _ c.if-output-needed.true))

pub returns : goal.returns
returns c = sym (ap verdict (output-good _ _ _ c.if-output-needed.false))
