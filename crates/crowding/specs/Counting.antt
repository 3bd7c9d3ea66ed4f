-- What the functions that count nodes require, and what they ensure. Assumes nothing.
use Rattle.std.specs.Prelude.{ℕ, ◌-◌, ◌≤◌, ◌<◌, ◌≡◌, List, length}
use Rattle.lists.specs.Lists.{All, largest}
use Rattle.crowding.specs.declared.Chain.{Chain}
use Rattle.crowding.specs.declared.Span.{Span}
use Rattle.crowding.specs.Chains.{row_end, positions, Ascends, AtMost, Counted}

-- the nodes of a span of positions are counted; m is the largest count
pub record SpanToCount (rows : List ℕ) (span : Span) (counts : List ℕ) (m : ℕ) : Type 0 where
  pub all-counts : length counts ≡ 256
  pub inside : span.to ≤ length rows
  pub few : span.to - span.from ≤ 65535
  pub below : AtMost (65535 - (span.to - span.from)) counts
  pub longest : m ≡ largest counts

pub record SpanCounted (rows : List ℕ) (span : Span) (counts counts' : List ℕ) (m : ℕ) : Type 0 where
  pub counted : Counted rows span.from (span.to - span.from) counts counts'
  pub longest : m ≡ largest counts'

-- the nodes after a chain's positions are counted
pub record ChainToCount (rows : List ℕ) (r : ℕ) (chain : Chain) (next : List ℕ) : Type 0 where
  pub some : 0 < r
  pub five : r ≤ 5
  pub entries : length rows ≤ length next
  pub few : chain.count ≤ 4096
  pub order : Ascends r rows
  pub placed : All (λ p. row_end r p ≤ length rows) (positions next chain)
