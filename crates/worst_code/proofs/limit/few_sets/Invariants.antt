-- `worst_code::limit::few_sets` meets its contract. The loop's invariant: so far there are C(n,i) sets, and not too many.
-- Assumes nothing.
use Prim.Native.Nat.{◌-◌, ◌≤◌}
use mathlib.Core.Path.{◌≡◌}
use Rattle.binomial.specs.Choose.{choose}
use Rattle.worst_code.proofs.limit.few_sets.Given as goal

abbrev pub invariant-loop-i : goal.invariant-loop-i
invariant-loop-i l = (l.sets ≡ choose l.n l.i) × (l.sets ≤ 16_777_216)
