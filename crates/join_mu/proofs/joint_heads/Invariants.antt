-- `join_mu::joint_heads` meets its contract. The loop's invariant: the layers below x have their joined numbers, the
-- others 0 and 0. Assumes nothing.
use Rattle.join.proofs.Heads.{HeadsFound}
use Rattle.join_mu.proofs.joint_heads.Given as goal

abbrev pub invariant-loop-x : goal.invariant-loop-x
invariant-loop-x l = HeadsFound l.a l.b l.c l.r l.heads l.most l.rows l.x
