-- `crowding_most::most::most_held` meets its contract: the rows' nodes are the first level. Assumes nothing.
use Prim.Native.Nat.{ℕ, ◌≤◌}
use native.Mathlib.Omega.{arith}
use mathlib.Core.List.{List}
use lib.ListN.{length, length-replicate}
use Rattle.crowding.specs.declared.Level.{Level}
use Rattle.crowding.specs.Visiting.{RowsToSearch}
use Rattle.crowding.proofs.Lengths.{zeros}
use Rattle.crowding.proofs.VisitRows.{few_bytes, root-to-link, root-to-visit}
use Rattle.crowding_most.proofs.Grow.{grown-rows}
use Rattle.crowding_most.proofs.most.most_held.Goals as goal

-- there is a place for each byte
enough : {rows : List ℕ} {c : ℕ} {level : Level} → RowsToSearch rows c level → length rows ≤ length (zeros 20480)
enough pre = omega (arith, few_bytes pre, length-replicate {A = ℕ} 20480 0)

pub link_rows-requires : goal.link_rows-requires
link_rows-requires c = let pre = c.requires in root-to-link pre (enough pre)

pub children-requires : goal.children-requires
children-requires c =
    root-to-visit c.requires c.link_rows.ensures 0 c.highest-high.result c.highest-high.ensures c.link_rows.auto.heads c.link_rows.auto.counts
    (omega (arith, enough c.requires, c.link_rows.auto.next))

pub returns : goal.returns
returns c =
    grown-rows c.link_rows.ensures c.children.ensures
