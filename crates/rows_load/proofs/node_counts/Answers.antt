-- `rows_load::node_counts` meets its contract: in ascending rows the bytes that are v are the rows that hold v. Assumes
-- nothing.
use Prim.Native.Nat.{◌*◌}
use native.Mathlib.Nat.{sub-zero, mul-le-mul}
use native.Mathlib.Omega.{arith}
use mathlib.Core.Path.{refl}
use borrow.Author.Rules.{rules}
use Rattle.packing.proofs.Load.{counts-none, counts-of-nodes}
use Rattle.rows_load.proofs.node_counts.Goals as goal

pub count_bytes-requires : goal.count_bytes-requires
count_bytes-requires c =
    let p = c.requires.c_bound in
    record { from_le_end = (omega arith, p.2, omega (arith, mul-le-mul p.0 p.1)); counts_len = refl; counted = counts-none }

pub returns : goal.returns
returns c =
    counts-of-nodes c.args.rows.now c.args.c c.args.r _ (search rules) c.requires.order (rw (sub-zero (c.args.c * c.args.r)) c.count_bytes.ensures)
