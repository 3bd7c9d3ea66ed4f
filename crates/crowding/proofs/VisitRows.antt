-- What `least_crowded` hands on and what comes of it: the rows' nodes are the first level. Assumes nothing.
use Prim.Native.Nat.{ℕ, suc, ◌≤◌}
use mathlib.Core.Path.{◌≡◌, refl, ◌∙◌}
use mathlib.Core.List.{List}
use native.Mathlib.Nat.{mul-le-mul}
use native.Mathlib.Omega.{arith}
use lib.ListN.{length}
use Rattle.lists.specs.Lists.{largest}
use Rattle.lists.proofs.Largest.{largest-le}
use Rattle.packing.specs.Rows.{rows_at}
use Rattle.packing.specs.declared.Node.{Node}
use Rattle.packing.specs.declared.Record.{Record}
use Rattle.crowding.specs.declared.Level.{Level}
use Rattle.crowding.specs.declared.Search.{Search}
use Rattle.crowding.specs.Tails.{lowest_crowded, row_tails}
use Rattle.crowding.specs.Linking.{RowsToLink, RowsLinked}
use Rattle.crowding.specs.Visiting.{RowsToSearch, LevelToVisit, LevelVisited}
use Rattle.crowding.proofs.Follow.{at-most-zero}
use Rattle.crowding.proofs.Lengths.{zeros, slices-kept}
use Rattle.crowding.proofs.Levels.{grown-lowest}

-- the search at the first level, for every node
abbrev search_rows : (level : Level) (bound : ℕ) (high : Node) → Search
search_rows level bound high = record { level = level; bound = bound; low = record { 0 = 0 }; high = high }

module _ {rows : List ℕ} {c : ℕ} {level : Level} (pre : RowsToSearch rows c level) where
  -- at most 4,096 rows of five
  pub few_bytes : length rows ≤ 20480
  few_bytes =
      omega (
        arith,
        mul-le-mul {n₁ = c} {m₁ = level.r} {n₂ = 4096} {m₂ = 5} pre.few pre.limits.five,
        pre.whole,
      )

  pub root-to-link : {next : List ℕ} → length rows ≤ length next → RowsToLink rows c level (zeros 256) (zeros 256) next
  root-to-link entries = record {
    limits = pre.limits;
    slices = record {
      all-heads = refl;
      all-counts = refl;
      entries = entries;
      short = omega (arith, few_bytes);
    };
    none = at-most-zero 256;
    order = pre.order;
    few = pre.few;
    whole = pre.whole;
  }

  module _ {heads counts next : List ℕ} (linked : RowsLinked rows c level heads counts next) where
    pub root-to-visit : (bound : ℕ) (high : Node) → high.0 ≡ largest rows → length heads ≡ length (zeros 256)
        → length counts ≡ length (zeros 256) → length rows ≤ length next → LevelToVisit rows (search_rows level bound high) heads counts next
    root-to-visit bound high is eh ec entries = record {
      limits = pre.limits;
      slices = slices-kept (root-to-link {next = next} entries).slices eh ec refl;
      order = pre.order;
      nodes = λ p. omega (arith, largest-le rows p);
      few = λ v. omega (arith, linked.few v, pre.few);
      below = λ u lt. absurd (omega arith);
      chained = linked.chained;
    }

    pub root-visited : {bound : ℕ} {high : Node} {least found : Record} {last : List ℕ}
        → LevelVisited rows (search_rows level bound high) heads counts next least last found
        → found.0 ≡ lowest_crowded (suc level.w) bound (row_tails 0 (rows_at level.r c rows)) least.0
    root-visited {bound} {high} {least} done =
        done.lowest
        ∙ grown-lowest (suc level.w) level.w bound level.r rows heads counts next (row_tails 0 (rows_at level.r c rows))
        least.0 refl linked.grown
