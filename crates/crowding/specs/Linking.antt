-- What the functions that link positions require, and what they ensure. The lists heads, counts and next are those before,
-- heads', counts' and next' those after. Assumes nothing.
use Rattle.std.specs.Prelude.{ℕ, ◌+◌, ◌-◌, ◌*◌, ◌≤◌, ◌<◌, ◌≡◌, List, length}
use Rattle.lists.specs.Lists.{largest}
use Rattle.packing.specs.Rows.{rows_at}
use Rattle.crowding.specs.declared.Chain.{Chain}
use Rattle.crowding.specs.declared.Level.{Level}
use Rattle.crowding.specs.declared.Span.{Span}
use Rattle.crowding.specs.Tails.{row_tails}
use Rattle.crowding.specs.Chains.{tails_at, positions, node_of, Chained, Ascends, AtMost, EmptyBelow, Fresh, AllChained, KeptOutside, KeptTo, Linked, Grown}

-- a head and a count for each node, and an entry for each position, which fits in 16 bits
pub record Slices (rows heads counts next : List ℕ) : Type 0 where
  pub all-heads : length heads ≡ 256
  pub all-counts : length counts ≡ 256
  pub entries : length rows ≤ length next
  pub short : length rows ≤ 65535

-- a row has at most five nodes, and one before those to come
pub record Limits (level : Level) : Type 0 where
  pub one : level.w < level.r
  pub five : level.r ≤ 5

-- a span of a row's positions is linked; m is the largest count
pub record SpanToLink (rows : List ℕ) (span : Span) (heads counts next : List ℕ) (m : ℕ) : Type 0 where
  pub slices : Slices rows heads counts next
  pub inside : span.to ≤ length rows
  pub few : span.to - span.from ≤ 5
  pub below : AtMost 65530 counts
  pub longest : m ≡ largest counts
  pub fresh : Fresh span.from span.to heads counts next

pub record SpanLinked (rows : List ℕ) (span : Span) (heads counts next heads' counts' next' : List ℕ) (m : ℕ) : Type 0 where
  pub chains : Linked rows span.from (span.to - span.from) heads counts next heads' counts' next'
  pub longest : m ≡ largest counts'
  pub kept : KeptOutside span.from span.to next next'

-- what comes after each position of a chain is linked
pub record TailsToLink (rows : List ℕ) (level : Level) (chain : Chain) (heads counts next : List ℕ) : Type 0 where
  pub limits : Limits level
  pub slices : Slices rows heads counts next
  pub none : AtMost 0 counts
  pub order : Ascends level.r rows
  pub few : chain.count ≤ 4096
  pub chained : Chained level.r rows (node_of rows chain) (positions next chain)

pub record TailsLinked (rows : List ℕ) (level : Level) (chain : Chain) (next heads' counts' next' : List ℕ) (m : ℕ) : Type 0 where
  pub grown : Grown level.w (tails_at level.r rows (positions next chain)) level.r rows heads' counts' next'
  pub chained : AllChained level.r rows heads' counts' next'
  pub longest : m ≡ largest counts'
  pub few : AtMost chain.count counts'
  pub below : EmptyBelow (node_of rows chain + 1) counts'
  pub kept : KeptTo (node_of rows chain) rows next next'

-- the positions of c rows are linked
pub record RowsToLink (rows : List ℕ) (c : ℕ) (level : Level) (heads counts next : List ℕ) : Type 0 where
  pub limits : Limits level
  pub slices : Slices rows heads counts next
  pub none : AtMost 0 counts
  pub order : Ascends level.r rows
  pub few : c ≤ 4096
  pub whole : length rows ≡ c * level.r

pub record RowsLinked (rows : List ℕ) (c : ℕ) (level : Level) (heads' counts' next' : List ℕ) : Type 0 where
  pub grown : Grown level.w (row_tails 0 (rows_at level.r c rows)) level.r rows heads' counts' next'
  pub chained : AllChained level.r rows heads' counts' next'
  pub few : AtMost c counts'
