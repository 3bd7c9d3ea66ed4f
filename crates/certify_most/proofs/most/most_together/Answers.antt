-- `certify_most::most::most_together` meets its contract. Assumes nothing.
use Prim.Native.Nat.{◌<◌}
use mathlib.Core.Path.{◌∙◌}
use native.Mathlib.Omega.{arith}
use lib.Dec.{lit≤}
use Rattle.crowding.proofs.Crowded.{rows-in-order}
use Rattle.crowding.proofs.Order.{length_taken, taken-ascends}
use Rattle.certify_most.proofs.most.Counted.{counted-nodes, searched-sets}
use Rattle.certify_most.proofs.most.most_together.Goals as goal

pub most_load-requires : goal.most_load-requires
most_load-requires c =
    record { c_bound = (c.requires.rows_asked.few, c.requires.rows_asked.r-most, c.requires.rows_asked.within); n_bound = lit≤ tt; all = rows-in-order c.args.r c.args.c c.args.rows.now (λ i. (c.type_inv.rows i).fits) c.requires.rows_asked.ordered }

pub returns-then-x-eq0 : goal.returns-then-x-eq0
returns-then-x-eq0 c =
    c.most_load.ensures
    ∙ counted-nodes c.args.r c.args.c c.args.rows.now (λ i. (c.type_inv.rows i).fits) c.args.x c.if-x-eq0.true

pub most_held-requires : goal.most_held-requires
most_held-requires c =
    let some : 0 < c.args.r = omega (arith, c.requires.x_lt_r) in
    record {
      limits = record { one = c.requires.x_lt_r; five = c.requires.rows_asked.r-most };
      few = c.requires.rows_asked.few;
      whole = length_taken c.args.r c.args.c c.args.rows.now c.requires.rows_asked.within;
      order = taken-ascends c.args.r c.args.c c.args.rows.now c.requires.rows_asked.within c.requires.rows_asked.ordered some;
    }

pub returns : goal.returns
returns c =
    searched-sets c.args.r c.args.c c.args.rows.now (λ i. (c.type_inv.rows i).fits) c.args.x
    c.most_held.result c.requires.rows_asked.within c.requires.rows_asked.ordered c.most_held.ensures
