-- `crowding_counts::most_after` meets its contract. Assumes nothing.
use mathlib.Core.Path.{refl, sym}
use Rattle.crowding.proofs.Follow.{at-most-zero}
use Rattle.crowding.proofs.Times.{length-tails}
use borrow.Author.Tests.{eq-eqb, ne_eqb}
use native.Mathlib.Omega.{arith}
use Rattle.crowding_counts.proofs.most_after.Goals as goal

pub returns-then-w-ne1 : goal.returns-then-w-ne1
returns-then-w-ne1 c =
    rw (ne_eqb c.args.level.w 1 (omega arith), c.from.ensures)
    (sym (length-tails c.args.level.r c.args.rows.now c.args.chain.count c.args.next.now c.args.chain.head))

pub count_tails-requires : goal.count_tails-requires
count_tails-requires c = record { chain_to_count = c.requires; counts_len = (refl, at-most-zero 256) }

pub returns : goal.returns
returns c =
    rw (eq-eqb c.args.level.w 1 (omega arith)) c.count_tails.ensures
