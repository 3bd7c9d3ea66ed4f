-- `crowding_chains::tails::link_tails` meets its contract: a walk along the chain. Assumes nothing.
use Prim.Native.Nat.{◌-◌}
use Rattle.crowding.proofs.LinkTails.{TailsLinking}
use Rattle.crowding_chains.proofs.tails.link_tails.Given as goal

abbrev pub invariant-loop : goal.invariant-loop
invariant-loop l =
    TailsLinking l.rows record { r = l.r; w = l.w } l.fn.chain l.initial.next l.heads l.counts l.next l.p (l.end - l.counter) l.most
