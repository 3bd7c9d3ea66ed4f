-- `crowding_counts::count_tails` meets its contract: the counts and the tails after the chain that is left are as many
-- as those of the whole chain. Assumes nothing.
use Prim.Native.Nat.{◌-◌}
use Rattle.crowding.proofs.CountTails.{TailsCounting}
use Rattle.crowding_counts.proofs.count_tails.Given as goal

abbrev pub invariant-loop : goal.invariant-loop
invariant-loop l = TailsCounting l.rows l.r l.fn.chain l.next l.counts l.p (l.end - l.counter) l.most
