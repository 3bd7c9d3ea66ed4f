-- `split_steps::copy_costs` meets its contract. The loop's invariant: the costs before place `d` are stored. Assumes nothing.
use mathlib.Core.Path.{◌≡◌}
use lib.ListN.{replicate}
use Rattle.split.specs.Table.{copies_lose}
use Rattle.lists.proofs.Stores.{stored_to}
use Rattle.split_steps.proofs.copy_costs.Given as goal

abbrev pub invariant-loop-d : goal.invariant-loop-d
invariant-loop-d l =
    l.costs ≡ stored_to 0 (replicate 121 0) (copies_lose l.s l.k l.x l.bound) l.d
