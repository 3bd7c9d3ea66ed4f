-- The largest number of tails that hold one set of nodes, the sets grown a node at a time, and what visiting a chain and a level's
-- nodes ensures: the search's bound is the largest number so far, next the slice before, next' and most those after.
-- Assumes nothing.
use Rattle.std.specs.Prelude.{ℕ, zero, suc, max, ◌≡◌, List, [], length}
use Rattle.crowding.specs.declared.Chain.{Chain}
use Rattle.crowding.specs.declared.Search.{Search}
use Rattle.crowding.specs.Tails.{Tail, tails_after, over_nodes}
use Rattle.crowding.specs.Chains.{tails_at, chain, positions, node_of, KeptTo, KeptBelow}

-- the larger of `best` and the largest number of the tails that have one set of w nodes
unfoldable pub most_tails : (w : ℕ) (tails : List Tail) (best : ℕ) → ℕ
most_tails zero tails best = max best (length tails)
most_tails (suc w) tails best = over_nodes (λ v best. most_tails w (tails_after w v tails []) best) 256 best

-- the same over a level's chains
abbrev pub most_child : (w r : ℕ) (rows heads counts next : List ℕ) (best : ℕ) → ℕ
most_child w r rows heads counts next best =
    over_nodes (λ v best. most_tails w (tails_at r rows (chain heads counts next v)) best) 256 best

pub record ChainGrown (rows : List ℕ) (search : Search) (grown : Chain) (next next' : List ℕ) (most : ℕ) : Type 0 where
  pub is : most ≡ most_tails search.level.w (tails_at search.level.r rows (positions next grown)) search.bound
  pub kept : KeptTo (node_of rows grown) rows next next'

pub record LevelGrown (rows : List ℕ) (search : Search) (heads counts next next' : List ℕ) (most : ℕ) : Type 0 where
  pub is : most ≡ most_child search.level.w search.level.r rows heads counts next search.bound
  pub kept : KeptBelow rows counts next next'
