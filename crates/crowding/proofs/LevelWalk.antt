-- A level's nodes are visited, the largest first, whatever is looked for: the chains still to be visited stay. Assumes nothing.
use Prim.Native.Nat.{ℕ, ◌-◌, ◌≤◌, ◌<◌}
use mathlib.Core.Path.{◌≡◌, refl, ◌∙◌}
use mathlib.Core.Bool.{Bool, true, false}
use mathlib.Core.List.{List}
use native.Mathlib.Omega.{arith}
use lib.ListN.{length, get_or}
use lib.Dec.{ltb}
use borrow.Author.Tests.{ltb-true, ltb-false}
use Rattle.crowding.specs.declared.Chain.{Chain}
use Rattle.crowding.specs.declared.Search.{Search}
use Rattle.crowding.specs.Chains.{chain, node_of, Placed, KeptTo, KeptBelow}
use Rattle.crowding.specs.Visiting.{ChainToVisit, LevelToVisit}
use Rattle.crowding.proofs.Follow.{all-follow}
use Rattle.crowding.proofs.Walks.{follow-kept-to}

-- node v's chain
abbrev pub chain_at : (heads counts : List ℕ) (v : ℕ) → Chain
chain_at heads counts v = record { head = get_or heads v 0; count = get_or counts v 0 }

-- the search with this bound
abbrev pub bounded_by : Search → (bound : ℕ) → Search
bounded_by search bound = record { level = search.level; bound = bound; low = search.low; high = search.high }

-- the nodes below v are still to be visited
pub record Walking (rows heads counts next₀ next : List ℕ) (v : ℕ) : Type 0 where
  pub nodes : v ≤ 256
  pub all-next : length next ≡ length next₀
  pub stay : (u : ℕ) → u < v → chain heads counts next u ≡ chain heads counts next₀ u
  pub kept : KeptBelow rows counts next₀ next

pub walking_start : {rows heads counts next₀ : List ℕ} {v : ℕ} → v ≤ 256 → Walking rows heads counts next₀ next₀ v
walking_start few = record { nodes = few; all-next = refl; stay = λ u lt. refl; kept = λ v empty p le. refl }

pub walking-down : {rows heads counts next₀ next : List ℕ} {n v : ℕ} → n ≤ v → Walking rows heads counts next₀ next v
    → Walking rows heads counts next₀ next n
walking-down le h =
    record { nodes = omega (arith, h.nodes); all-next = h.all-next; stay = λ u lt. h.stay u (omega arith); kept = h.kept }

pub walking_skip : {rows heads counts next₀ next : List ℕ} {v : ℕ} → Walking rows heads counts next₀ next v
    → Walking rows heads counts next₀ next (v - 1)
walking_skip h = walking-down (omega arith) h

module _ {rows : List ℕ} {search : Search} {heads counts next₀ : List ℕ} (pre : LevelToVisit rows search heads counts next₀) where
  -- no node above the highest has a chain
  pub none_above : (u : ℕ) → search.high.0 < u → get_or counts u 0 ≤ 0
  none_above u lt = go (ltb 0 (get_or counts u 0)) refl
    where
      go : (b : Bool) → ltb 0 (get_or counts u 0) ≡ b → get_or counts u 0 ≤ 0
      go true e =
          let r = search.level.r in
          let first = (all-follow (Placed r rows u) (get_or counts u 0) next₀ (get_or heads u 0) (ltb-true 0 (get_or counts u 0) e)
          (pre.chained u).0).0 in
          absurd (omega (arith, pre.nodes (get_or heads u 0), first.1))
      go false e = ltb-false 0 (get_or counts u 0) e

  -- node v-1 is visited, whose chain is longer than the bound
  module _ {next : List ℕ} {v : ℕ} (h : Walking rows heads counts next₀ next v) (some : 0 < v) {bound : ℕ}
      (many : bound < get_or counts (v - 1) 0) where
    abbrev head : ℕ
    head = get_or heads (v - 1) 0

    head-node : get_or rows head 0 ≡ v - 1
    head-node =
        (all-follow (Placed search.level.r rows (v - 1)) (get_or counts (v - 1) 0) next₀ head (omega arith)
        (pre.chained (v - 1)).0).0.1

    pub walking-chain : ChainToVisit rows (bounded_by search bound) (chain_at heads counts (v - 1)) next
    walking-chain = record {
      limits = pre.limits;
      entries = omega (arith, pre.slices.entries, h.all-next);
      short = pre.slices.short;
      order = pre.order;
      nodes = pre.nodes;
      many = many;
      few = pre.few (v - 1);
      chained = rw (head-node, h.stay (v - 1) (omega arith)) (pre.chained (v - 1));
    }

    pub walking-next : {last : List ℕ} → KeptTo (node_of rows (chain_at heads counts (v - 1))) rows next last → length last ≡ length next
        → Walking rows heads counts next₀ last (v - 1)
    walking-next {last} kept same = record {
      nodes = omega (arith, h.nodes);
      all-next = same ∙ h.all-next;
      stay = λ u lt.
          follow-kept-to rows u (get_or rows head 0) (get_or counts u 0) next last (get_or heads u 0) search.level.r
          (omega (arith, head-node)) kept (rw (h.stay u (omega arith)) (pre.chained u).0)
          ∙ h.stay u (omega arith);
      kept = λ u empty p le.
          (let not : v - 1 ≤ u → ⊥ = λ low. omega (arith, empty (v - 1) (omega arith)) in
          kept p (omega (arith, not, head-node)))
          ∙ h.kept u empty p le;
    }
