-- `split_table::base::base_line` meets its contract. The loop's invariant: the entries before `b` are stored. Assumes nothing.
use Prim.Native.Nat.{ℕ, ◌<◌}
use mathlib.Core.Path.{◌≡◌}
use lib.ListN.{get_or}
use Rattle.split.specs.Working.{loss_below}
use Rattle.split_table.proofs.base.base_line.Given as goal

abbrev pub invariant-loop-b : goal.invariant-loop-b
invariant-loop-b l = (k : ℕ) → k < l.b → get_or l.entry-items k 0 ≡ loss_below k
