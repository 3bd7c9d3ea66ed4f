-- The loop of `children`: a level's nodes are visited, the largest first, and a chain no longer than the largest number so far needs
-- no visit. Assumes nothing.
use Prim.Native.Nat.{ℕ, ◌+◌, ◌-◌, ◌≤◌, ◌<◌}
use mathlib.Core.Path.{◌≡◌, sym, ap, ◌∙◌}
use mathlib.Core.List.{List}
use native.Mathlib.Omega.{arith}
use lib.ListN.{length, get_or}
use Rattle.crowding.specs.declared.Search.{Search}
use Rattle.crowding.specs.Tails.{over_nodes}
use Rattle.crowding.specs.Chains.{tails_at, chain}
use Rattle.crowding.specs.Visiting.{ChainToVisit, LevelToVisit}
use Rattle.crowding.proofs.LevelWalk.{Walking, chain_at, bounded_by, walking_start, walking_skip, none_above, walking-chain, walking-next}
use Rattle.crowding.proofs.OverNodes.{over-next, over-from, over-same}
use Rattle.crowding.proofs.Times.{length-tails}
use Rattle.crowding_most.specs.Most.{most_tails, most_child, ChainGrown, LevelGrown}
use Rattle.crowding_most.proofs.Levels.{most-few}

module _ (rows : List ℕ) (search : Search) (heads counts next₀ : List ℕ) where
  -- the largest number after node v is visited
  abbrev visited : (v best : ℕ) → ℕ
  visited v best = most_tails search.level.w (tails_at search.level.r rows (chain heads counts next₀ v)) best

  -- a chain no longer than the largest number so far changes nothing
  visited-same : (v best : ℕ) → get_or counts v 0 ≤ best → visited v best ≡ best
  visited-same v best few =
      most-few search.level.w (tails_at search.level.r rows (chain heads counts next₀ v)) best
      (omega (arith, length-tails search.level.r rows (get_or counts v 0) next₀ (get_or heads v 0)))

  -- the nodes below v are still to be visited
  pub record Growing (next : List ℕ) (v most : ℕ) : Type 0 where
    pub walk : Walking rows heads counts next₀ next v
    pub is : over_nodes visited v most ≡ most_child search.level.w search.level.r rows heads counts next₀ search.bound

module _ {rows : List ℕ} {search : Search} {heads counts next₀ : List ℕ} (pre : LevelToVisit rows search heads counts next₀) where
  pub growing-start : search.high.0 < 256 → Growing rows search heads counts next₀ next₀ (search.high.0 + 1) search.bound
  growing-start byte = record {
    walk = walking_start (omega arith);
    is = sym (over-from (visited rows search heads counts next₀) (search.high.0 + 1) 256 search.bound (omega arith)
        (λ u le lt. visited-same rows search heads counts next₀ u search.bound (omega (arith, none_above pre u (omega arith)))));
  }

  module _ {next : List ℕ} {v most : ℕ} (h : Growing rows search heads counts next₀ next v most) where
    pub growing-end : v ≤ search.low.0 → LevelGrown rows search heads counts next₀ next most
    growing-end low = record {
      is = sym (over-same (visited rows search heads counts next₀) v most
          (λ u lt. visited-same rows search heads counts next₀ u most (omega (arith, pre.below u (omega arith))))) ∙ h.is;
      kept = h.walk.kept;
    }

    module _ (some : 0 < v) where
      pub growing-skip : get_or counts (v - 1) 0 ≤ most → Growing rows search heads counts next₀ next (v - 1) most
      growing-skip few = record {
        walk = walking_skip h.walk;
        is = ap (over_nodes (visited rows search heads counts next₀) (v - 1))
            (sym (visited-same rows search heads counts next₀ (v - 1) most few))
            ∙ over-next (visited rows search heads counts next₀) v most some
            ∙ h.is;
      }

      module _ (many : most < get_or counts (v - 1) 0) where
        pub growing-chain : ChainToVisit rows (bounded_by search most) (chain_at heads counts (v - 1)) next
        growing-chain = walking-chain pre h.walk some many

        pub growing-next : {last : List ℕ} {found : ℕ}
            → ChainGrown rows (bounded_by search most) (chain_at heads counts (v - 1)) next last found → length last ≡ length next
            → Growing rows search heads counts next₀ last (v - 1) found
        growing-next {last} {found} done same = record {
          walk = walking-next pre h.walk some many done.kept same;
          is = ap (over_nodes (visited rows search heads counts next₀) (v - 1))
              (done.is
              ∙ ap (λ (l : List ℕ). most_tails search.level.w (tails_at search.level.r rows l) most)
              (h.walk.stay (v - 1) (omega arith)))
              ∙ over-next (visited rows search heads counts next₀) v most some
              ∙ h.is;
        }
