-- `crowding_code::few_pairs` meets its contract. Assumes nothing.
use mathlib.Core.Path.{ap}
use native.Mathlib.Omega.{arith}
use borrow.Author.Tests.{eq-eqb, ne_eqb, le-leb, lt-leb}
use lib.Dec.{leb}
use Rattle.packing.proofs.RowsAt.{length-rows_at}
use Rattle.crowding_code.proofs.few_pairs.Goals as goal

pub returns-then-x-ne1 : goal.returns-then-x-ne1
returns-then-x-ne1 c = rw (ne_eqb c.args.x 1 (omega arith))

pub returns-then-c-lt256 : goal.returns-then-c-lt256
returns-then-c-lt256 c =
    rw (eq-eqb c.args.x 1 (omega arith), length-rows_at c.args.r c.args.c c.args.rows.now, lt-leb 256 c.args.c (omega arith))

pub most_pairs-requires : goal.most_pairs-requires
most_pairs-requires c =
    let pre = c.requires in
    record { few = pre.0; five = pre.1; whole = pre.2 }

pub returns : goal.returns
returns c =
    rw (eq-eqb c.args.x 1 (omega arith), length-rows_at c.args.r c.args.c c.args.rows.now, le-leb 256 c.args.c (omega arith))
    (ap (λ most. leb most c.args.bound) c.most_pairs.ensures)
