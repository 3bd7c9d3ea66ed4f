-- `crowding_pairs::rows::count_rows` meets its contract. The loop's invariant: the pairs of the first i rows are counted. Assumes nothing.
use Rattle.crowding_pairs.specs.Codes.{coded}
use Rattle.crowding_pairs.proofs.Turns.{Turns}
use Rattle.crowding_pairs.proofs.rows.count_rows.Given as goal

abbrev pub invariant-loop-i : goal.invariant-loop-i
invariant-loop-i l = Turns coded l.rows l.c l.r l.initial.table l.table l.i
