-- `crowding_chains::rows::link_rows` meets its contract: a walk through the rows. Assumes nothing.
use Prim.Native.Nat.{◌*◌}
use Rattle.crowding.proofs.LinkRows.{RowsLinking}
use Rattle.crowding_chains.proofs.rows.link_rows.Given as goal

abbrev pub invariant-loop-i : goal.invariant-loop-i
invariant-loop-i l =
    RowsLinking l.rows l.c record { r = l.r; w = l.w } l.initial.next l.heads l.counts l.next l.i (l.i * l.r) l.most
