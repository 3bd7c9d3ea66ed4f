-- `crowding_sums::rows::keep_counted` meets its contract. The loop's invariant: of the first i rows those that pass are written, m of them,
-- up to byte `to`. Assumes nothing.
use Rattle.crowding_sums.specs.Sums.{is_kept}
use Rattle.crowding_sums.proofs.Kept.{Keeping}
use Rattle.crowding_sums.proofs.rows.keep_counted.Given as goal

abbrev pub invariant-loop-i : goal.invariant-loop-i
invariant-loop-i l =
    Keeping (is_kept l.weights l.table l.sets.bound l.d) l.rows l.sets.c l.r l.initial.kept l.kept l.i l.m l.to
