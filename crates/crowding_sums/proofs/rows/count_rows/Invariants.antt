-- `crowding_sums::rows::count_rows` meets its contract. The loop's invariant: the sums of the first i rows are counted. Assumes nothing.
use Rattle.crowding_pairs.proofs.Turns.{Turns}
use Rattle.crowding_sums.specs.Sums.{leaving_row, in_cell}
use Rattle.crowding_sums.proofs.rows.count_rows.Given as goal

abbrev pub invariant-loop-i : goal.invariant-loop-i
invariant-loop-i l = Turns (λ p. leaving_row l.weights (in_cell p) l.d) l.rows l.c l.r l.initial.table l.table l.i
