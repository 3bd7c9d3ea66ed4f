-- What `visit` hands on and what comes of it: a set's last node, the nodes after a chain counted, the level below linked, and its
-- nodes visited; the rows' nodes are the first level. Assumes nothing.
use Prim.Native.Nat.{ℕ, suc, ◌-◌, ◌≤◌, ◌<◌, max}
use mathlib.Core.Path.{◌≡◌, refl, ◌∙◌}
use mathlib.Core.List.{List}
use native.Mathlib.Omega.{arith}
use Rattle.packing.specs.Rows.{rows_at}
use Rattle.packing.specs.declared.Node.{Node}
use Rattle.crowding.specs.declared.Chain.{Chain}
use Rattle.crowding.specs.declared.Level.{Level}
use Rattle.crowding.specs.declared.Search.{Search}
use Rattle.crowding.specs.Tails.{row_tails}
use Rattle.crowding.specs.Chains.{tails_at, positions, node_of, most_after}
use Rattle.crowding.specs.Linking.{TailsLinked, RowsLinked}
use Rattle.crowding.specs.Visiting.{ChainToVisit}
use Rattle.crowding.proofs.Times.{length-tails}
use Rattle.crowding.proofs.VisitChain.{below, search_below}
use Rattle.crowding_most.specs.Most.{most_tails, ChainGrown, LevelGrown}
use Rattle.crowding_most.proofs.Levels.{most-one, grown-most, grown-few}

module _ {rows : List ℕ} {search : Search} {chain : Chain} {next : List ℕ} (pre : ChainToVisit rows search chain next) where
  -- no node is to come: the chain is longer than the largest number so far
  pub grown-last : search.level.w ≡ 0 → ChainGrown rows search chain next next chain.count
  unfolding most_tails
  grown-last e = record {
    is = rw e (omega (arith, length-tails search.level.r rows chain.count next chain.head, pre.many));
    kept = λ p le. refl;
  }

  -- one node is to come: the nodes after the chain are counted
  pub grown-one : (m most : ℕ) → search.level.w ≡ 1
      → m ≡ most_after search.level.w (tails_at search.level.r rows (positions next chain)) → most ≡ max search.bound m
      → ChainGrown rows search chain next next most
  grown-one m most e is larger = record {
    is = larger ∙ most-one search.level.w m (tails_at search.level.r rows (positions next chain)) search.bound e is;
    kept = λ p le. refl;
  }

  module _ (some : 0 < search.level.w) {heads counts last : List ℕ} {m : ℕ}
      (linked : TailsLinked rows (below search) chain next heads counts last m) where
    -- no chain of the level is longer than the largest number so far
    pub grown-short : m ≤ search.bound → ChainGrown rows search chain next last search.bound
    grown-short few = record {
      is = grown-few search.level.w (search.level.w - 1) search.level.r rows heads counts last
          (tails_at search.level.r rows (positions next chain)) search.bound (omega arith) linked.grown m linked.longest few;
      kept = linked.kept;
    }

    pub grown-level : {most : ℕ} {end : List ℕ} → LevelGrown rows (search_below search (node_of rows chain)) heads counts last end most
        → ChainGrown rows search chain next end most
    grown-level done = record {
      is = done.is
          ∙ grown-most search.level.w (search.level.w - 1) search.level.r rows heads counts last
          (tails_at search.level.r rows (positions next chain)) search.bound (omega arith) linked.grown;
      kept = λ p le. done.kept (node_of rows chain) linked.below p le ∙ linked.kept p le;
    }

-- the first level, for every node
pub grown-rows : {rows : List ℕ} {c : ℕ} {level : Level} {heads counts next last : List ℕ} {most : ℕ} {high : Node}
    → RowsLinked rows c level heads counts next
    → LevelGrown rows (record { level = level; bound = 0; low = record { 0 = 0 }; high = high }) heads counts next last most
    → most ≡ most_tails (suc level.w) (row_tails 0 (rows_at level.r c rows)) 0
grown-rows {rows} {c} {level} {heads} {counts} {next} linked done =
    done.is
    ∙ grown-most (suc level.w) level.w level.r rows heads counts next (row_tails 0 (rows_at level.r c rows)) 0 refl
    linked.grown
