-- The loop of `count_tails`: what a turn requires and what it leaves, from the contract of counting a span. Assumes nothing.
use Prim.Native.Nat.{ℕ, ◌+◌, ◌-◌, ◌*◌, ◌≤◌, ◌<◌}
use mathlib.Core.Path.{◌≡◌, ◌∙◌}
use mathlib.Core.List.{List, []}
use native.Mathlib.Omega.{arith}
use lib.ListN.{length, get_or}
use Rattle.lists.specs.Lists.{All, largest}
use Rattle.lists.proofs.Largest.{largest-most}
use Rattle.crowding.specs.declared.Chain.{Chain}
use Rattle.crowding.specs.declared.Span.{Span}
use Rattle.crowding.specs.Tails.{Tail, tails_after}
use Rattle.crowding.specs.Chains.{row_end, tails_at, follow, positions, AtMost, largest_after}
use Rattle.crowding.specs.Counting.{SpanToCount, SpanCounted, ChainToCount}
use Rattle.crowding.proofs.Follow.{all-follow}
use Rattle.crowding.proofs.Times.{times-le, chain-times, chain-end, largest-counts}
use Rattle.crowding.proofs.Walks.{InRow, whole-in-row}

-- the positions after p
abbrev beyond : (r p : ℕ) → Span
beyond r p = record { from = p + 1; to = row_end r p }

module _ (rows : List ℕ) (r : ℕ) (chain : Chain) (next : List ℕ) where
  abbrev tails : List Tail
  tails = tails_at r rows (positions next chain)

  -- n positions of the chain are left, from p on; m is the largest count
  pub record TailsCounting (counts : List ℕ) (p n m : ℕ) : Type 0 where
    pub left : n ≤ chain.count
    pub all-counts : length counts ≡ 256
    pub few : AtMost (5 * (chain.count - n)) counts
    pub longest : m ≡ largest counts
    pub placed : All (λ q. row_end r q ≤ length rows) (follow n next p)
    pub counted : (v : ℕ)
        → length (tails_after 0 v tails []) ≡ get_or counts v 0 + length (tails_after 0 v (tails_at r rows (follow n next p)) [])

module _ {rows : List ℕ} {r : ℕ} {chain : Chain} {next : List ℕ} where
  pub counting-end : {counts : List ℕ} {p n m : ℕ} → TailsCounting rows r chain next counts p n m → n ≡ 0
      → m ≡ largest_after 0 (tails rows r chain next)
  counting-end {counts} {p} {n} {m} i e =
      i.longest
      ∙ largest-counts counts (tails rows r chain next) i.all-counts (λ v. omega (arith, chain-end r rows n next p v e, i.counted v))

  module _ (pre : ChainToCount rows r chain next) where
    pub counting-start : {counts : List ℕ} → length counts ≡ 256 → AtMost 0 counts
        → TailsCounting rows r chain next counts chain.head chain.count 0
    counting-start {counts} all none = record {
      left = omega arith;
      all-counts = all;
      few = λ v. omega (arith, none v);
      longest = omega (arith, largest-most counts 0 none);
      placed = pre.placed;
      counted = λ v. omega (arith, none v);
    }

    module _ {counts : List ℕ} {p n m : ℕ} (i : TailsCounting rows r chain next counts p n m) (some : 0 < n) where
      pub counting-in-row : InRow r rows p
      counting-in-row = whole-in-row r rows n next p pre.some some i.placed

      pub counting-to-count : SpanToCount rows (beyond r p) counts m
      counting-to-count =
          let row = counting-in-row in
          record {
            all-counts = i.all-counts;
            inside = row.0;
            few = omega (arith, pre.five);
            below = λ v. omega (arith, i.few v, i.left, pre.five, pre.few);
            longest = i.longest;
          }

      pub counting-next : {counts' : List ℕ} {m' : ℕ} → SpanCounted rows (beyond r p) counts counts' m' → length counts' ≡ length counts
          → TailsCounting rows r chain next counts' (get_or next p 0) (n - 1) m'
      counting-next {counts'} {m'} done ec =
          let row = counting-in-row in
          record {
            left = omega (arith, i.left);
            all-counts = ec ∙ i.all-counts;
            few = λ v. omega (
              arith,
              done.counted v,
              times-le rows v (row_end r p - (p + 1)) (p + 1),
              i.few v,
              i.left,
              pre.five,
            );
            longest = done.longest;
            placed = (all-follow (λ q. row_end r q ≤ length rows) n next p some i.placed).1;
            counted = λ v. omega (
              arith,
              done.counted v,
              chain-times r rows n next p v some pre.order pre.some row.0,
              i.counted v,
            );
          }
