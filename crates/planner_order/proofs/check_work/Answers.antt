-- `planner_order::check_work` meets its contract. Assumes nothing.
use Prim.Native.Nat.{ℕ, ◌+◌, ◌*◌, ◌≤◌}
use native.Mathlib.Omega.{arith}
use native.Mathlib.Numerals.{add-one}
use native.Mathlib.Nat.{le_refl, add-le-add, mul-le-mul}
use mathlib.Core.Path.{sym, ap}
use Rattle.refusal.specs.Checked.{verdict}
use Rattle.planner.proofs.Checks.{work-short, work-good}
use Rattle.planner_order.proofs.check_work.Goals as goal

-- the entries needed are few
few : (s b : ℕ) → (s ≤ 5) × (b ≤ 4_096) → s * (b + 1) ≤ 20_485
few s b h = mul-le-mul h.0 (add-le-add h.1 (le_refl 1))

pub overflow_mul-needed : goal.overflow_mul-needed
overflow_mul-needed c = omega (arith, few _ _ c.requires)

pub returns-then-work-needed : goal.returns-then-work-needed
returns-then-work-needed c = rw add-one (sym (ap verdict (work-short _ _ (rw add-one at c.if-work-needed.true))))

pub returns : goal.returns
returns c = sym (ap verdict (work-good _ _ (rw add-one at c.if-work-needed.false)))
