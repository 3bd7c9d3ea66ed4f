-- What a search asks and gives: the lists without a mark are those before, those with one those after. Assumes nothing.
use Rattle.std.specs.Prelude.{ℕ, ◌+◌, ◌*◌, ◌-◌, ◌≤◌, ◌<◌, ◌≡◌, List, [], ◌∷◌, ◌++◌, length, get_or, take, drop, eqb}
use Rattle.worst.specs.Worst.{lower, through, nodes_from}
use Rattle.worst.specs.Records.{among, begin, size, on_set, usable_by, Index, HitsOf, few, raised_to, lost_to}
use Rattle.worst.specs.declared.Entries.{Entries}
use Rattle.worst.specs.declared.Search.{Search}

-- the entries name records
pub record Named (index hits : List ℕ) (entries : Entries) : Type 0 where
  pub inside : entries.from + entries.count ≤ length index
  pub records : (q : ℕ) → q < entries.count → get_or index (entries.from + q) 0 < length hits

-- and the hits have room for them
pub record Raising (index hits : List ℕ) (entries : Entries) : Type 0 where
  pub named : Named index hits entries
  pub room : (i : ℕ) → get_or hits i 0 + among (eqb i) index entries.from entries.count ≤ 255

pub record Raised (s : ℕ) (index hits : List ℕ) (entries : Entries) (hits' : List ℕ) (usable : ℕ) : Type 0 where
  pub hits-are : hits' ≡ raised_to index hits entries.from entries.count
  pub usable-is : usable ≡ few s hits'

-- and the hits hold them
pub record Lowering (index hits : List ℕ) (entries : Entries) : Type 0 where
  pub named : Named index hits entries
  pub held : (i : ℕ) → among (eqb i) index entries.from entries.count ≤ get_or hits i 0

-- no node has more than `most` records
pub record Light (index : List ℕ) (most : ℕ) : Type 0 where
  pub each : (v : ℕ) → v < 256 → size index v ≤ most
  pub small : most ≤ 65_535

-- the next node is below n, and enough nodes are left; the first `chosen` bytes of the set are chosen, and the hits are theirs
pub record Searching (search : Search) (index hits set out : List ℕ) : Type 0 where
  pub is-index : Index index (length hits)
  pub below : search.next.0 < search.n
  pub n-most : search.n ≤ 255
  pub more : search.chosen < search.k
  pub enough : search.k + search.next.0 ≤ search.n + search.chosen
  pub k-most : search.k ≤ 255
  pub set_room : search.k ≤ length set
  pub out-room : search.k ≤ length out
  pub counted : HitsOf index (take search.chosen set) (length hits) hits
  pub hits-most : (i : ℕ) → on_set index (take search.chosen set) i ≤ search.chosen
  pub usable-is : search.usable ≡ usable_by index search.s (length hits) (take search.chosen set)

-- with the next node as the last one of a set: the least so far and the set at the output's start are those after this set
pub record LastChosen (search : Search) (index hits set out set' out' : List ℕ) (least : ℕ) : Type 0 where
  pub found : let nodes = take search.chosen set ++ (search.next.0 ∷ []) in
      lower (usable_by index search.s (length hits) nodes) nodes
      (record { fewest = search.least; set = take search.k out })
      ≡ record { fewest = least; set = take search.k out' }
  pub rest : drop search.k out' ≡ drop search.k out
  pub same_chosen : take search.chosen set' ≡ take search.chosen set

-- no set that has the next node leaves fewer than the least so far: what the node and those after it lose leaves enough
abbrev pub NoLower : (search : Search) (most : ℕ) (index hits : List ℕ) → Type 0
NoLower search most index hits =
    search.least
    ≤ search.usable
    - (lost_to search.s index hits (begin index search.next.0) (size index search.next.0) + (search.k - (search.chosen + 1)) * most)

-- the least so far and the set at the output's start are those after all sets that have the next node; the hits are as before
pub record NextChosen (search : Search) (index hits set out hits' set' out' : List ℕ) (least : ℕ) : Type 0 where
  pub found : through (usable_by index search.s (length hits)) (take search.chosen set ++ (search.next.0 ∷ []))
      (search.k - (search.chosen + 1)) (nodes_from (search.next.0 + 1) (search.n - (search.next.0 + 1)))
      (record { fewest = search.least; set = take search.k out })
      ≡ record { fewest = least; set = take search.k out' }
  pub rest : drop search.k out' ≡ drop search.k out
  pub counted : HitsOf index (take search.chosen set) (length hits) hits'
  pub same_chosen : take search.chosen set' ≡ take search.chosen set

-- and after those that do not have it
pub record Searched (search : Search) (index hits set out hits' set' out' : List ℕ) (least : ℕ) : Type 0 where
  pub found : through (usable_by index search.s (length hits)) (take search.chosen set) (search.k - search.chosen)
      (nodes_from search.next.0 (search.n - search.next.0)) (record { fewest = search.least; set = take search.k out })
      ≡ record { fewest = least; set = take search.k out' }
  pub rest : drop search.k out' ≡ drop search.k out
  pub counted : HitsOf index (take search.chosen set) (length hits) hits'
  pub same_chosen : take search.chosen set' ≡ take search.chosen set

-- every node that is left is to come, from the next one on
pub record RestAsked (search : Search) (index hits set : List ℕ) : Type 0 where
  pub is-index : Index index (length hits)
  pub n-most : search.n ≤ 255
  pub all : search.n + search.chosen ≡ search.k + search.next.0
  pub k-most : search.k ≤ 255
  pub more : search.chosen < search.k
  pub set_room : search.k ≤ length set
  pub counted : HitsOf index (take search.chosen set) (length hits) hits
  pub hits-most : (i : ℕ) → on_set index (take search.chosen set) i ≤ search.chosen
  pub usable-is : search.usable ≡ usable_by index search.s (length hits) (take search.chosen set)

-- they are chosen
pub record RestRaised (search : Search) (index hits set hits' set' : List ℕ) (usable : ℕ) : Type 0 where
  pub whole : take search.k set' ≡ take search.chosen set ++ nodes_from search.next.0 (search.n - search.next.0)
  pub counted : HitsOf index (take search.k set') (length hits) hits'
  pub usable-is : usable ≡ usable_by index search.s (length hits) (take search.k set')
