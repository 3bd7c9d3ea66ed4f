-- The loop of `children`: a level's nodes are visited, the largest first, and a chain no longer than the bound needs no visit.
-- Assumes nothing.
use Prim.Native.Nat.{ℕ, suc, ◌+◌, ◌-◌, ◌≤◌, ◌<◌}
use mathlib.Core.Path.{◌≡◌, sym, ap, ◌∙◌}
use mathlib.Core.List.{List}
use native.Mathlib.Omega.{arith}
use lib.ListN.{length, get_or}
use Rattle.packing.specs.declared.Record.{Record}
use Rattle.crowding.specs.declared.Search.{Search}
use Rattle.crowding.specs.Tails.{over_nodes, lowest_crowded}
use Rattle.crowding.specs.Chains.{tails_at, chain, lowest_child, ShortFrom}
use Rattle.crowding.specs.Visiting.{ChainToVisit, ChainVisited, LevelToVisit, LevelVisited}
use Rattle.crowding.proofs.LevelWalk.{Walking, chain_at, walking_start, walking-down, none_above, walking-chain, walking-next}
use Rattle.crowding.proofs.OverNodes.{over-down, over-from, over-same}
use Rattle.crowding.proofs.TailsFew.{lowest-few}
use Rattle.crowding.proofs.Times.{length-tails}

module _ (rows : List ℕ) (search : Search) (heads counts next₀ : List ℕ) where
  -- the least row number after node v is visited
  abbrev visited : (v least : ℕ) → ℕ
  visited v least =
      lowest_crowded search.level.w search.bound (tails_at search.level.r rows (chain heads counts next₀ v)) least

  -- a chain no longer than the bound changes nothing
  visited-same : (v least : ℕ) → get_or counts v 0 ≤ search.bound → visited v least ≡ least
  visited-same v least few =
      lowest-few search.level.w search.bound (tails_at search.level.r rows (chain heads counts next₀ v)) least
      (omega (arith, length-tails search.level.r rows (get_or counts v 0) next₀ (get_or heads v 0)))

  -- the nodes below v are still to be visited
  pub record Visiting (least₀ : Record) (next : List ℕ) (v : ℕ) (found : Record) : Type 0 where
    pub walk : Walking rows heads counts next₀ next v
    pub lowest : over_nodes visited v found.0
        ≡ lowest_child search.level.w search.bound search.level.r rows heads counts next₀ least₀.0

module _ {rows : List ℕ} {search : Search} {heads counts next₀ : List ℕ} (pre : LevelToVisit rows search heads counts next₀) {least₀ : Record} where
  pub visiting-start : search.high.0 < 256 → Visiting rows search heads counts next₀ least₀ next₀ (search.high.0 + 1) least₀
  visiting-start byte = record {
    walk = walking_start (omega arith);
    lowest = sym (over-from (visited rows search heads counts next₀) (search.high.0 + 1) 256 least₀.0 (omega arith)
        (λ u le lt. visited-same rows search heads counts next₀ u least₀.0 (omega (arith, none_above pre u (omega arith)))));
  }

  module _ {next : List ℕ} {v : ℕ} {found : Record} (h : Visiting rows search heads counts next₀ least₀ next v found) where
    pub visiting-end : v ≤ search.low.0 → LevelVisited rows search heads counts next₀ least₀ next found
    visiting-end low = record {
      lowest = sym (over-same (visited rows search heads counts next₀) v found.0
          (λ u lt. visited-same rows search heads counts next₀ u found.0 (omega (arith, pre.below u (omega arith)))))
          ∙ h.lowest;
      kept = h.walk.kept;
    }

    -- node n is next, and no chain between n and v is longer than the bound
    module _ {n : ℕ} (below : n < v) (short : ShortFrom (suc n) v search.bound counts) where
      next_one : suc n - 1 ≡ n
      next_one = omega arith

      -- what is left is node n, and then the nodes below it
      next-node : over_nodes (visited rows search heads counts next₀) n (visited rows search heads counts next₀ n found.0)
          ≡ lowest_child search.level.w search.bound search.level.r rows heads counts next₀ least₀.0
      next-node =
          over-down (visited rows search heads counts next₀) n v found.0 below
          (λ u lt le. visited-same rows search heads counts next₀ u found.0 (short u lt le))
          ∙ h.lowest

      pub visiting-skip : get_or counts n 0 ≤ search.bound → Visiting rows search heads counts next₀ least₀ next n found
      visiting-skip few = record {
        walk = walking-down (omega arith) h.walk;
        lowest = ap (over_nodes (visited rows search heads counts next₀) n)
            (sym (visited-same rows search heads counts next₀ n found.0 few))
            ∙ next-node;
      }

      module _ (many : search.bound < get_or counts n 0) where
        many-there : search.bound < get_or counts (suc n - 1) 0
        many-there = rw next_one many

        pub visiting-chain : ChainToVisit rows search (chain_at heads counts n) next
        visiting-chain = rw next_one at (walking-chain pre (walking-down below h.walk) (omega arith) many-there)

        pub visiting-next : {last : List ℕ} {low : Record}
            → ChainVisited rows search (chain_at heads counts n) next found last low → length last ≡ length next
            → Visiting rows search heads counts next₀ least₀ last n low
        visiting-next {last} {low} done same = record {
          walk = rw next_one at
              (walking-next pre (walking-down below h.walk) (omega arith) many-there {last = last} (rw next_one done.kept) same);
          lowest = ap (over_nodes (visited rows search heads counts next₀) n)
              (done.lowest
              ∙ ap
              (λ (l : List ℕ). lowest_crowded search.level.w search.bound (tails_at search.level.r rows l) found.0)
              (h.walk.stay n below))
              ∙ next-node;
        }
