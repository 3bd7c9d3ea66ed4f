-- `crowding_code::search` meets its contract: the least row number is the answer. Assumes nothing.
use Prim.Native.Nat.{◌<◌}
use mathlib.Core.Path.{◌≡◌}
use Rattle.packing.specs.Rows.{rows_at, first_crowded}
use Rattle.packing.proofs.RowsAt.{length-rows_at}
use Rattle.crowding.specs.Tails.{row_number}
use Rattle.crowding.proofs.Crowded.{first-crowded-below, found-row, found_none}
use Rattle.crowding.proofs.Order.{length_taken, taken-ascends, taken-first}
use native.Mathlib.Omega.{arith}
use Rattle.crowding_code.proofs.search.Goals as goal

pub least_crowded-least-requires : goal.least_crowded-least-requires
least_crowded-least-requires c =
    let some : 0 < c.args.r = omega (arith, c.requires.c_bound) in
    record {
      limits = record { one = c.requires.c_bound.2; five = c.requires.c_bound.1 };
      few = c.requires.c_bound.0;
      whole = length_taken c.args.r c.args.c c.args.rows.now c.requires.c_bound.3;
      order = taken-ascends c.args.r c.args.c c.args.rows.now c.requires.c_bound.3 c.requires.order some;
    }

pub returns-then-least-lt65536 : goal.returns-then-least-lt65536
returns-then-least-lt65536 c =
    found-row c.least_crowded-least.result.0 (first_crowded c.args.x c.args.bound (rows_at c.args.r c.args.c c.args.rows.now)) ((let first-here : c.least_crowded-least.result.0 ≡ row_number (first_crowded c.args.x c.args.bound (rows_at c.args.r c.args.c c.args.rows.now)) = taken-first c.args.r c.args.c c.args.rows.now c.requires.c_bound.3 c.requires.order c.args.x c.args.bound c.least_crowded-least.result.0
    (omega (arith, c.requires.c_bound)) (λ i. (c.type_inv.rows i).fits) c.least_crowded-least.ensures in first-here))
    c.if-least-lt65536.true

pub returns : goal.returns
returns c =
    let rows = rows_at c.args.r c.args.c c.args.rows.now in
    found_none c.least_crowded-least.result.0 (first_crowded c.args.x c.args.bound rows) ((let first-here : c.least_crowded-least.result.0 ≡ row_number (first_crowded c.args.x c.args.bound (rows_at c.args.r c.args.c c.args.rows.now)) = taken-first c.args.r c.args.c c.args.rows.now c.requires.c_bound.3 c.requires.order c.args.x c.args.bound c.least_crowded-least.result.0
    (omega (arith, c.requires.c_bound)) (λ i. (c.type_inv.rows i).fits) c.least_crowded-least.ensures in first-here)) c.if-least-lt65536.false
    (λ j e. omega (arith, first-crowded-below c.args.x c.args.bound rows j e, length-rows_at c.args.r c.args.c c.args.rows.now, c.requires.c_bound))
