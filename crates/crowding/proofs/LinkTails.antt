-- The loop of `link_tails`: what a turn requires and what it leaves, from the contract of linking a span. Assumes nothing.
use Prim.Native.Nat.{ℕ, ◌+◌, ◌-◌, ◌≤◌, ◌<◌}
use mathlib.Core.Path.{◌≡◌, refl, ◌∙◌}
use mathlib.Core.List.{List, [], ◌∷◌}
use native.Mathlib.Omega.{arith}
use lib.ListN.{length, get_or}
use Rattle.lists.specs.Lists.{largest}
use Rattle.lists.proofs.Largest.{largest-most}
use Rattle.crowding.specs.declared.Chain.{Chain}
use Rattle.crowding.specs.declared.Level.{Level}
use Rattle.crowding.specs.declared.Span.{Span}
use Rattle.crowding.specs.Tails.{Tail, tails_after}
use Rattle.crowding.specs.Chains.{row_end, tails_at, follow, positions, node_of, AtMost, KeptTo}
use Rattle.crowding.specs.Linking.{Slices, SpanToLink, SpanLinked, TailsToLink, TailsLinked}
use Rattle.crowding.proofs.Lengths.{slices-kept}
use Rattle.crowding.proofs.Walks.{InRow, Walk, walk_start, walk_first, walk_end, walk-grown, walk-chained, walk-in-row, walk-fresh, walk_kept, walk-longer, walk-on}

-- the positions after p that are linked
abbrev beyond : (level : Level) (p : ℕ) → Span
beyond level p = record { from = p + 1; to = row_end level.r p - level.w }

module _ (rows : List ℕ) (level : Level) (chain : Chain) (next₀ : List ℕ) where
  -- what comes of the chain, for each node
  abbrev after : ℕ → List Tail
  after u = tails_after level.w u (tails_at level.r rows (positions next₀ chain)) []

  -- n positions of the chain are left, from p on; m is the largest count
  pub record TailsLinking (heads counts next : List ℕ) (p n m : ℕ) : Type 0 where
    pub left : n ≤ chain.count
    pub slices : Slices rows heads counts next
    pub all-next : length next ≡ length next₀
    pub few : AtMost (chain.count - n) counts
    pub longest : m ≡ largest counts
    pub kept : KeptTo (node_of rows chain) rows next₀ next
    pub walk : Walk level.r level.w rows (node_of rows chain) after heads counts next (follow n next p)

module _ {rows : List ℕ} {level : Level} {chain : Chain} {next₀ : List ℕ} where
  pub tails_end : {heads counts next : List ℕ} {p n m : ℕ} → TailsLinking rows level chain next₀ heads counts next p n m → n ≡ 0
      → TailsLinked rows level chain next₀ heads counts next m
  tails_end {p = p} {n = n} i e =
      let walk = walk_end n p e i.walk in
      record {
        grown = walk-grown walk;
        chained = walk-chained walk;
        longest = i.longest;
        few = λ u. omega (arith, i.few u);
        below = walk.below;
        kept = i.kept;
      }

  module _ {heads₀ counts₀ : List ℕ} (pre : TailsToLink rows level chain heads₀ counts₀ next₀) where
    pos : 0 < level.r
    pos = omega (arith, pre.limits.one)

    pub tails-start : TailsLinking rows level chain next₀ heads₀ counts₀ next₀ chain.head chain.count 0
    tails-start = record {
      left = omega arith;
      slices = pre.slices;
      all-next = refl;
      few = λ u. omega (arith, pre.none u);
      longest = omega (arith, largest-most counts₀ 0 pre.none);
      kept = λ q le. refl;
      walk = walk_start pre.none pre.chained.0 pre.chained.1;
    }

    module _ {heads counts next : List ℕ} {p n m : ℕ} (i : TailsLinking rows level chain next₀ heads counts next p n m)
        (some : 0 < n) where
      abbrev rest : List ℕ
      rest = follow (n - 1) next (get_or next p 0)

      walking : Walk level.r level.w rows (node_of rows chain) (after rows level chain next₀) heads counts next (p ∷ rest)
      walking = walk_first n p some i.walk

      pub tails-in-row : InRow level.r rows p
      tails-in-row = walk-in-row pos pre.order walking

      pub tails-to-link : SpanToLink rows (beyond level p) heads counts next m
      tails-to-link = record {
        slices = i.slices;
        inside = omega (arith, tails-in-row.0);
        few = omega (arith, pre.limits.five, tails-in-row.1);
        below = λ u. omega (arith, i.few u, pre.few);
        longest = i.longest;
        fresh = walk-fresh pos pre.order walking;
      }

      pub tails-next : {heads' counts' next' : List ℕ} {m' : ℕ}
          → SpanLinked rows (beyond level p) heads counts next heads' counts' next' m'
          → length heads' ≡ length heads → length counts' ≡ length counts → length next' ≡ length next
          → TailsLinking rows level chain next₀ heads' counts' next' (get_or next p 0) (n - 1) m'
      tails-next {heads'} {counts'} {next'} {m'} link eh ec en =
          let longer = walk-longer pos pre.order walking heads' counts' next' link.chains (chain.count - n) i.few in
          record {
            left = omega (arith, i.left);
            slices = slices-kept i.slices eh ec en;
            all-next = en ∙ i.all-next;
            few = λ u. omega (arith, longer u, i.left);
            longest = link.longest;
            kept = λ q le. walk_kept pos pre.order walking next' link.kept q le ∙ i.kept q le;
            walk = walk-on pos pre.order walking heads' counts' next' link.chains (n - 1) refl link.kept;
          }
