-- `join_mu::common_multiple` meets its contract. The loop's invariant: m is a multiple of the larger number, and no
-- common multiple comes before it. Assumes nothing.
use Rattle.join.proofs.Search.{Searching}
use Rattle.join_mu.proofs.common_multiple.Given as goal

abbrev pub invariant-loop-m : goal.invariant-loop-m
invariant-loop-m l = Searching l.a l.b l.m
