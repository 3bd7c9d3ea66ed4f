-- `split_lines::periods::whole_periods` meets its contract. The loop's invariant: the entries before place `from` are laid down, or all.
-- Assumes nothing.
use Prim.Native.Nat.{◌≤◌, min}
use lib.ListN.{length}
use Rattle.split.specs.Working.{Periods}
use Rattle.split_lines.proofs.periods.whole_periods.Given as goal

abbrev pub invariant-loop-from : goal.invariant-loop-from
invariant-loop-from l = (l.step ≤ l.from) × Periods l.size l.step l.cost l.line (min l.from (length l.line)) l.periods
