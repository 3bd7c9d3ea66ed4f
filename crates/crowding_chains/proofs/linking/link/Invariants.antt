-- `crowding_chains::linking::link` meets its contract: the positions that are left, linked to the present chains, make the
-- chains of all. Assumes nothing.
use Prim.Native.Nat.{ℕ, ◌+◌, ◌-◌, ◌≤◌}
use mathlib.Core.Path.{◌≡◌}
use mathlib.Core.List.{List}
use lib.ListN.{length}
use Rattle.lists.specs.Lists.{largest}
use Rattle.crowding.specs.Chains.{chain, linked, AtMost, Fresh, KeptOutside}
use Rattle.crowding.specs.Linking.{Slices}
use Rattle.crowding_chains.proofs.linking.link.Given as goal

-- the positions before f are linked
pub record Linking (rows heads₀ counts₀ next₀ : List ℕ) (from to : ℕ) (heads counts next : List ℕ) (f m : ℕ) : Type 0 where
  pub on : from ≤ f
  pub slices : Slices rows heads counts next
  pub all-next : length next ≡ length next₀
  pub below : AtMost (65530 + (f - from)) counts
  pub longest : m ≡ largest counts
  pub fresh : Fresh f to heads counts next
  pub chains : (v : ℕ)
      → linked rows v f (to - f) (chain heads counts next v) ≡ linked rows v from (to - from) (chain heads₀ counts₀ next₀ v)
  pub kept : KeptOutside from to next₀ next

abbrev pub invariant-loop-f : goal.invariant-loop-f
invariant-loop-f l =
    Linking l.rows l.initial.heads l.initial.counts l.initial.next l.fn.span.from l.fn.span.to l.heads l.counts l.next l.f l.longest
