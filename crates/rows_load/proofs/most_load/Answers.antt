-- `rows_load::most_load` meets its contract: the largest of the counts of the first n nodes. Assumes nothing.
use native.Mathlib.Nat.{sub-zero}
use mathlib.Core.Path.{◌∙◌, ap}
use Rattle.lists.specs.Lists.{largest}
use Rattle.packing.specs.Rows.{rows_at}
use Rattle.packing.proofs.Load.{rows-ascend, take-node_counts}
use Rattle.rows_load.proofs.most_load.Goals as goal

pub node_counts-counts-requires : goal.node_counts-counts-requires
node_counts-counts-requires c =
    record { c_bound = c.requires.c_bound; order = rows-ascend c.args.n (rows_at c.args.r c.args.c c.args.rows.now) c.requires.all }

pub returns : goal.returns
returns c =
    c.largest_count.ensures
    ∙ rw (sub-zero c.args.n, c.node_counts-counts.ensures)
    (ap largest (take-node_counts c.args.r c.args.c c.args.n c.args.rows.now c.requires.n_bound))
