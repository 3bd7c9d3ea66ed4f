-- `crowding_counts::count_nodes` meets its contract: what is counted and what is left make the counts of all. Assumes
-- nothing.
use Prim.Native.Nat.{ℕ, ◌+◌, ◌-◌, ◌≤◌}
use mathlib.Core.Path.{◌≡◌}
use mathlib.Core.List.{List}
use lib.ListN.{length, get_or}
use Rattle.lists.specs.Lists.{largest}
use Rattle.crowding.specs.Chains.{times, AtMost}
use Rattle.crowding_counts.proofs.count_nodes.Given as goal

-- the positions before f are counted
pub record Counting (rows counts₀ : List ℕ) (from to : ℕ) (counts : List ℕ) (f m : ℕ) : Type 0 where
  pub on : from ≤ f
  pub all-counts : length counts ≡ 256
  pub below : AtMost (65535 - (to - f)) counts
  pub longest : m ≡ largest counts
  pub counted : (v : ℕ) → get_or counts v 0 + times rows v f (to - f) ≡ get_or counts₀ v 0 + times rows v from (to - from)

abbrev pub invariant-loop-f : goal.invariant-loop-f
invariant-loop-f l = Counting l.rows l.initial.counts l.fn.span.from l.fn.span.to l.counts l.f l.largest
