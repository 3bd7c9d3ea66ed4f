-- `planner_code::plan` meets its contract: a refused pack's refusal is the answer; an accepted pack's blocks are the bytes from
-- its first block on. Assumes nothing.
use native.Mathlib.Omega.{arith}
use Rattle.planner.specs.Planning.{plan}
use Rattle.planner_code.proofs.Chosen.{refused-done}
use Rattle.planner.proofs.Found.{PackFound, check-refused, check-accepted}
use Rattle.planner_code.proofs.plan.Goals as goal

pub slice_bounds-plan_pack-count : goal.slice_bounds-plan_pack-count
slice_bounds-plan_pack-count c = omega (arith, ((let found-here : PackFound c.args.pack.now c.in-Ok.head c.check_pack-checked.result.layers c.check_pack-checked.result.dark = check-accepted c.args.pack.now c.check_pack-checked.ensures c.in-Ok.is in found-here)).inside)

pub slice_bounds-plan_pack-start : goal.slice_bounds-plan_pack-start
slice_bounds-plan_pack-start c = omega (arith, ((let found-here : PackFound c.args.pack.now c.in-Ok.head c.check_pack-checked.result.layers c.check_pack-checked.result.dark = check-accepted c.args.pack.now c.check_pack-checked.ensures c.in-Ok.is in found-here)).inside)

pub plan_pack-requires : goal.plan_pack-requires
plan_pack-requires c = ((let found-here : PackFound c.args.pack.now c.in-Ok.head c.check_pack-checked.result.layers c.check_pack-checked.result.dark = check-accepted c.args.pack.now c.check_pack-checked.ensures c.in-Ok.is in found-here)).held

pub returns-in-Err : goal.returns-in-Err
unfolding plan
returns-in-Err c =
    refused-done c.args.work.now c.args.out.now
    (rw (check-refused c.args.pack.now c.check_pack-checked.ensures c.in-Err.is))
    c.refuse.ensures

pub returns-in-Ok : goal.returns-in-Ok
unfolding plan
returns-in-Ok c =
    rw ((let found-here : PackFound c.args.pack.now c.in-Ok.head c.check_pack-checked.result.layers c.check_pack-checked.result.dark = check-accepted c.args.pack.now c.check_pack-checked.ensures c.in-Ok.is in found-here)).found c.plan_pack.ensures
