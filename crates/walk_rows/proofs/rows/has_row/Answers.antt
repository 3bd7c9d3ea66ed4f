-- `walk_rows::rows::has_row` meets its contract: no row is left, the place is past the end, or what follows it has room for a row or
-- has not. Assumes nothing.
use native.Mathlib.Omega.{arith}
use mathlib.Core.Path.{sym}
use Rattle.walk.proofs.Steps.{not-has_row-of-none, not-has_row-of-lt, room-has_row}
use Rattle.walk_rows.proofs.rows.has_row.Goals as goal

pub returns-then-left-eq0 : goal.returns-then-left-eq0
returns-then-left-eq0 c =
    sym (not-has_row-of-none c.args.bytes.now c.args.place c.if-left-eq0.true)

pub returns-then-bytes-at : goal.returns-then-bytes-at
returns-then-bytes-at c =
    sym (not-has_row-of-lt c.args.bytes.now c.args.place (omega arith))

pub returns : goal.returns
returns c =
    room-has_row c.args.bytes.now c.args.place (omega arith) (omega arith)
