-- What visiting a chain and a level's nodes requires, and what it ensures: next and least are those before, next' and found
-- those after. Assumes nothing.
use Rattle.std.specs.Prelude.{ℕ, ◌*◌, ◌≤◌, ◌<◌, ◌≡◌, List, length}
use Rattle.packing.specs.declared.Record.{Record}
use Rattle.crowding.specs.declared.Chain.{Chain}
use Rattle.crowding.specs.declared.Level.{Level}
use Rattle.crowding.specs.declared.Search.{Search}
use Rattle.crowding.specs.Tails.{lowest_crowded}
use Rattle.crowding.specs.Chains.{tails_at, positions, node_of, Chained, Ascends, AtMost, EmptyBelow, AllChained, KeptTo, KeptBelow, lowest_child}
use Rattle.crowding.specs.Linking.{Limits, Slices}

-- whole rows, all of them ascending
pub record RowsToSearch (rows : List ℕ) (c : ℕ) (level : Level) : Type 0 where
  pub limits : Limits level
  pub few : c ≤ 4096
  pub whole : length rows ≡ c * level.r
  pub order : Ascends level.r rows

pub record ChainToVisit (rows : List ℕ) (search : Search) (chain : Chain) (next : List ℕ) : Type 0 where
  pub limits : Limits search.level
  pub entries : length rows ≤ length next
  pub short : length rows ≤ 65535
  pub order : Ascends search.level.r rows
  pub nodes : AtMost search.high.0 rows
  pub many : search.bound < chain.count
  pub few : chain.count ≤ 4096
  pub chained : Chained search.level.r rows (node_of rows chain) (positions next chain)

pub record ChainVisited (rows : List ℕ) (search : Search) (chain : Chain) (next : List ℕ) (least : Record) (next' : List ℕ)
    (found : Record) : Type 0 where
  pub lowest : found.0
      ≡ lowest_crowded search.level.w search.bound (tails_at search.level.r rows (positions next chain)) least.0
  pub kept : KeptTo (node_of rows chain) rows next next'

pub record LevelToVisit (rows : List ℕ) (search : Search) (heads counts next : List ℕ) : Type 0 where
  pub limits : Limits search.level
  pub slices : Slices rows heads counts next
  pub order : Ascends search.level.r rows
  pub nodes : AtMost search.high.0 rows
  pub few : AtMost 4096 counts
  pub below : EmptyBelow search.low.0 counts
  pub chained : AllChained search.level.r rows heads counts next

pub record LevelVisited (rows : List ℕ) (search : Search) (heads counts next : List ℕ) (least : Record) (next' : List ℕ)
    (found : Record) : Type 0 where
  pub lowest : found.0 ≡ lowest_child search.level.w search.bound search.level.r rows heads counts next least.0
  pub kept : KeptBelow rows counts next next'
