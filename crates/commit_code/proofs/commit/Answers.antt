-- `commit_code::commit` meets its contract: a refused pack's refusal is the answer; an accepted pack's blocks are the bytes from
-- its first block on. Assumes nothing.
use native.Mathlib.Omega.{arith}
use Rattle.commit.specs.Committing.{commit}
use Rattle.commit.proofs.Committed.{refused-done}
use Rattle.planner.proofs.Found.{PackFound, check-refused, check-accepted}
use Rattle.commit_code.proofs.commit.Goals as goal

pub slice_bounds-commit_pack-count : goal.slice_bounds-commit_pack-count
slice_bounds-commit_pack-count c = omega (
  arith,
  ((let found-here : PackFound c.args.pack.now c.in-Ok.head c.check_pack-checked.result.layers
      c.check_pack-checked.result.dark = check-accepted c.args.pack.now c.check_pack-checked.ensures c.in-Ok.is in found-here)).inside,
)

pub slice_bounds-commit_pack-start : goal.slice_bounds-commit_pack-start
slice_bounds-commit_pack-start c = omega (
  arith,
  ((let found-here : PackFound c.args.pack.now c.in-Ok.head c.check_pack-checked.result.layers
      c.check_pack-checked.result.dark = check-accepted c.args.pack.now c.check_pack-checked.ensures c.in-Ok.is in found-here)).inside,
)

pub commit_pack-requires : goal.commit_pack-requires
commit_pack-requires c = ((let found-here : PackFound c.args.pack.now c.in-Ok.head c.check_pack-checked.result.layers
    c.check_pack-checked.result.dark = check-accepted c.args.pack.now c.check_pack-checked.ensures c.in-Ok.is in found-here)).held

pub returns-in-Err : goal.returns-in-Err
unfolding commit
returns-in-Err c =
    refused-done c.args.out.now
    (rw (check-refused c.args.pack.now c.check_pack-checked.ensures c.in-Err.is))
    c.refuse.ensures

pub returns-in-Ok : goal.returns-in-Ok
unfolding commit
returns-in-Ok c =
    rw ((let found-here : PackFound c.args.pack.now c.in-Ok.head c.check_pack-checked.result.layers
    c.check_pack-checked.result.dark = check-accepted c.args.pack.now c.check_pack-checked.ensures c.in-Ok.is in found-here)).found c.commit_pack.ensures
