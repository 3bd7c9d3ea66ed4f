-- `split_lines::passes::climbing` meets its contract. The loop's invariant: the entries before place `i` were looked at. Assumes nothing.
use Rattle.split.specs.Working.{climbs}
use Rattle.split_lines.proofs.Climbing.{CountedTo}
use Rattle.split_lines.proofs.passes.climbing.Given as goal

abbrev pub invariant-loop-i : goal.invariant-loop-i
invariant-loop-i l = CountedTo (climbs l.shift l.cost l.line) l.n l.i l.found
