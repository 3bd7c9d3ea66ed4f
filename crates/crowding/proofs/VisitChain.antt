-- What `visit` hands on and what comes of it: a set's last node, the nodes after a chain counted, the level below linked, and its
-- nodes visited. Assumes nothing.
use Prim.Native.Nat.{ℕ, ◌+◌, ◌-◌, ◌/◌, ◌≤◌, ◌<◌, min}
use mathlib.Core.Path.{◌≡◌, refl, ◌∙◌}
use mathlib.Core.Bool.{Bool, true, false}
use mathlib.Core.List.{List, [], ◌∷◌}
use native.Mathlib.Omega.{arith}
use lib.ListN.{length, get_or, get_or-eq_default}
use lib.Dec.{ltb}
use borrow.Author.Tests.{lt-ltb, ltb-true, ltb-false}
use Rattle.lists.specs.Lists.{All}
use Rattle.lists.proofs.Alls.{all-imp}
use Rattle.lists.proofs.Largest.{largest-most}
use Rattle.packing.specs.declared.Record.{Record}
use Rattle.crowding.specs.declared.Chain.{Chain}
use Rattle.crowding.specs.declared.Level.{Level}
use Rattle.crowding.specs.declared.Search.{Search}
use Rattle.crowding.specs.Tails.{lowest_row, lowest_crowded}
use Rattle.crowding.specs.Chains.{row_end, tails_at, positions, node_of, lowest_at, most_after, Placed, AtMost}
use Rattle.crowding.specs.Counting.{ChainToCount}
use Rattle.crowding.specs.Linking.{TailsToLink, TailsLinked}
use Rattle.crowding.specs.Visiting.{ChainToVisit, ChainVisited, LevelToVisit, LevelVisited}
use Rattle.crowding.proofs.Follow.{all-follow, at-most-zero}
use Rattle.crowding.proofs.Times.{length-tails}
use Rattle.crowding.proofs.Levels.{most-few, grown-lowest, grown-few}
use Rattle.crowding.proofs.Lengths.{zeros, slices-kept}
use Rattle.crowding.proofs.Walks.{before-end}

-- the level below that of a search, and the search there, for the nodes above v
abbrev pub below : Search → Level
below search = record { r = search.level.r; w = search.level.w - 1 }

abbrev pub search_below : (search : Search) (v : ℕ) → Search
search_below search v = record { level = below search; bound = search.bound; low = record { 0 = v + 1 }; high = search.high }

lowest-row-at : (r : ℕ) (rows l : List ℕ) (least : ℕ) → lowest_at r least l ≡ lowest_row least (tails_at r rows l)
unfolding lowest_at lowest_row
lowest-row-at r rows [] least = refl
lowest-row-at r rows (p ∷ l) least = lowest-row-at r rows l (min least (p / r))

module _ {rows : List ℕ} {search : Search} {chain : Chain} {next : List ℕ} (pre : ChainToVisit rows search chain next) where
  pub row-some : 0 < search.level.r
  row-some = omega (arith, pre.limits.one)

  pub chain-inside : chain.head < length rows
  chain-inside =
      omega (
        arith,
        (all-follow (Placed search.level.r rows (node_of rows chain)) chain.count next chain.head (omega (arith, pre.many))
            pre.chained.0).0.0,
        before-end search.level.r chain.head row-some,
      )

  pub chain-entries : All (λ p. p < length next) (positions next chain)
  chain-entries =
      all-imp (Placed search.level.r rows (node_of rows chain)) (λ p. p < length next)
      (λ p placed. omega (arith, placed.0, before-end search.level.r p row-some, pre.entries)) (positions next chain)
      pre.chained.0

  -- no node is to come: the chain is longer than the bound
  pub visited-last : {least found : Record} → search.level.w ≡ 0
      → found.0 ≡ lowest_at search.level.r least.0 (positions next chain) → ChainVisited rows search chain next least next found
  unfolding lowest_crowded
  visited-last {least} {found} e is =
      let tails = tails_at search.level.r rows (positions next chain) in
      record {
        lowest = is
            ∙ rw (
              e,
              lt-ltb search.bound (length tails)
                  (omega (arith, length-tails search.level.r rows chain.count next chain.head, pre.many)),
            )
            (lowest-row-at search.level.r rows (positions next chain) least.0);
        kept = λ p le. refl;
      }

  pub chain-to-count : ChainToCount rows search.level.r chain next
  chain-to-count = record {
    some = row-some;
    five = pre.limits.five;
    entries = pre.entries;
    few = pre.few;
    order = pre.order;
    placed = all-imp (Placed search.level.r rows (node_of rows chain)) (λ p. row_end search.level.r p ≤ length rows)
        (λ p placed. placed.0) (positions next chain) pre.chained.0;
  }

  module _ (some : 0 < search.level.w) where
    -- after no node are there more tails than the bound
    pub visited-few : {least : Record} (m : ℕ)
        → m ≡ most_after search.level.w (tails_at search.level.r rows (positions next chain)) → m ≤ search.bound
        → ChainVisited rows search chain next least next least
    visited-few {least} m is few = record {
      lowest = most-few search.level.w search.bound m (tails_at search.level.r rows (positions next chain)) least.0 some is few;
      kept = λ p le. refl;
    }

    pub chain-to-link : TailsToLink rows (below search) chain (zeros 256) (zeros 256) next
    chain-to-link = record {
      limits = record { one = omega (arith, pre.limits.one); five = pre.limits.five };
      slices = record { all-heads = refl; all-counts = refl; entries = pre.entries; short = pre.short };
      none = at-most-zero 256;
      order = pre.order;
      few = pre.few;
      chained = pre.chained;
    }

    module _ {heads counts last : List ℕ} {m : ℕ} (linked : TailsLinked rows (below search) chain next heads counts last m) where
      -- no chain of the level is longer than the bound
      pub visited-short : {least : Record} → m ≤ search.bound → ChainVisited rows search chain next least last least
      visited-short {least} few = record {
        lowest = grown-few search.level.w (search.level.w - 1) search.bound search.level.r rows heads counts last
            (tails_at search.level.r rows (positions next chain)) least.0 (omega arith) linked.grown m linked.longest few;
        kept = linked.kept;
      }

      -- where a chain is longer, there is a node above the chain's
      pub node-above : length counts ≡ 256 → search.bound < m → node_of rows chain < 255
      node-above all many = go (ltb (node_of rows chain) 255) refl
        where
          none : 255 ≤ node_of rows chain → AtMost 0 counts
          none high u = at (ltb u 256) refl
            where
              at : (b : Bool) → ltb u 256 ≡ b → get_or counts u 0 ≤ 0
              at true e = omega (arith, linked.below u (omega (arith, ltb-true u 256 e)))
              at false e = omega (arith, get_or-eq_default counts 0 {n = u} (omega (arith, ltb-false u 256 e)))

          go : (b : Bool) → ltb (node_of rows chain) 255 ≡ b → node_of rows chain < 255
          go true e = ltb-true (node_of rows chain) 255 e
          go false e = absurd (omega (arith, largest-most counts 0 (none (ltb-false (node_of rows chain) 255 e)), linked.longest))

      pub level-to-visit : length heads ≡ length (zeros 256) → length counts ≡ length (zeros 256)
          → length last ≡ length next
          → LevelToVisit rows (search_below search (node_of rows chain)) heads counts last
      level-to-visit eh ec en = record {
        limits = chain-to-link.limits;
        slices = slices-kept chain-to-link.slices eh ec en;
        order = pre.order;
        nodes = pre.nodes;
        few = λ v. omega (arith, linked.few v, pre.few);
        below = linked.below;
        chained = linked.chained;
      }

      pub visited-level : {least found : Record} {end : List ℕ}
          → LevelVisited rows (search_below search (node_of rows chain)) heads counts last least end found
          → ChainVisited rows search chain next least end found
      visited-level {least} {found} {end} done = record {
        lowest = done.lowest
            ∙ grown-lowest search.level.w (search.level.w - 1) search.bound search.level.r rows heads counts last
            (tails_at search.level.r rows (positions next chain)) least.0 (omega arith) linked.grown;
        kept = λ p le. done.kept (node_of rows chain) linked.below p le ∙ linked.kept p le;
      }
