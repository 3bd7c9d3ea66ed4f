-- `join_mu::part_rows` meets its contract. Assumes nothing.
use native.Mathlib.Omega.{arith}
use Rattle.join.specs.Estate.{joint_size}
use Rattle.join_mu.proofs.part_rows.Goals as goal

pub returns-then-size-eq0 : goal.returns-then-size-eq0
unfolding joint_size
returns-then-size-eq0 c = rw c.if-size-eq0.true (omega arith)

pub returns : goal.returns
unfolding joint_size
returns c = omega arith
