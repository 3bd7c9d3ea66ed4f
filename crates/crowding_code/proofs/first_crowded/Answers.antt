-- `crowding_code::first_crowded` meets its contract: few rows, or few with each set by a count, need no search. Assumes nothing.
use Prim.Native.Nat.{◌<◌}
use mathlib.Core.Path.{sym, ap, ◌∙◌}
use Rattle.lists.proofs.Alls.{get_d-all}
use Rattle.lists.proofs.Tests.{T_true}
use Rattle.packing.specs.Rows.{rows_at}
use Rattle.packing.specs.Answers.{row_found}
use Rattle.packing.proofs.RowsAt.{length-rows_at, all-rows_at}
use Rattle.crowding.proofs.Crowded.{first-none-of-few}
use Rattle.crowding_pairs.proofs.Pairs.{first-none-of-pairs}
use native.Mathlib.Omega.{arith}
use Rattle.crowding_code.proofs.first_crowded.Goals as goal

pub returns-then-c-bound : goal.returns-then-c-bound
returns-then-c-bound c =
    sym (ap row_found (first-none-of-few c.args.x c.args.bound (rows_at c.args.r c.args.c c.args.rows.now)
    (omega (arith, length-rows_at c.args.r c.args.c c.args.rows.now, c.if-c-bound.true))))

pub few_pairs-requires : goal.few_pairs-requires
few_pairs-requires c =
    (c.requires.limits.0, c.requires.limits.1, c.requires.limits.3)

pub returns-then-few_pairs : goal.returns-then-few_pairs
returns-then-few_pairs c =
    let few = sym c.few_pairs.ensures ∙ c.if-few_pairs.true in
    sym
    (ap row_found
    (first-none-of-pairs (rows_at c.args.r c.args.c c.args.rows.now) c.requires.order c.args.x c.args.bound
    (all-rows_at (λ v. v < 256) c.args.r c.args.c c.args.rows.now
    (get_d-all (λ v. v < 256) 0 c.args.rows.now (λ i lt. (c.type_inv.rows i).fits)))
    (T_true few)))

pub few_sums-requires : goal.few_sums-requires
few_sums-requires c = record { c_bound = c.requires.limits; order = c.requires.order }

pub returns-then-few_sums : goal.returns-then-few_sums
returns-then-few_sums c = sym (ap row_found (c.few_sums.ensures c.if-few_sums.true))

pub search-requires : goal.search-requires
search-requires c = record { c_bound = c.requires.limits; order = c.requires.order }

pub returns : goal.returns
returns c = c.search.ensures
