-- `crowding_code::packings::layer_crowded` meets its contract: where no node of layer 0 comes too often no row is crowded. Assumes nothing.
use Prim.Native.Nat.{◌≤◌}
use mathlib.Core.Path.{sym, ap}
use Rattle.packing.specs.Answers.{row_found}
use Rattle.crowding.proofs.Crowded.{first-none-of-loads}
use Rattle.crowding_code.proofs.packings.layer_crowded.Goals as goal

pub returns-then-load-bound : goal.returns-then-load-bound
returns-then-load-bound c =
    let first = c.if-x-eq0.true in
    let few : c.args.load ≤ c.args.bound = c.if-load-bound.true in
    sym
    (ap row_found
    (first-none-of-loads c.args.r c.args.c c.args.rows.now (λ i. (c.type_inv.rows i).fits) c.args.x c.args.bound
    (rw (← c.requires.counted first) few)))

pub first_crowded-requires : goal.first_crowded-requires
first_crowded-requires c =
    record { limits = c.requires.limits; order = c.requires.order }

pub returns : goal.returns
returns c = c.first_crowded.ensures
