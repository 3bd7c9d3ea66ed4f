-- How tails lie in arrays. A position is the place of a byte of the rows, and stands for the tail of the nodes after it in
-- its row. The positions of one node are a chain: its first in `heads`, its length in `counts`, and the others through
-- `next`. Assumes nothing.
use Rattle.std.specs.Prelude.{ℕ, zero, suc, ◌+◌, ◌-◌, ◌*◌, ◌/◌, ◌≤◌, ◌<◌, min, ◌≡◌, cond, List, [], ◌∷◌, map, length, get_or, take, drop, eqb}
use Rattle.lists.specs.Lists.{All, tally, largest, up_to}
use Rattle.crowding.specs.declared.Chain.{Chain}
use Rattle.crowding.specs.Tails.{Tail, tails_after, over_nodes, lowest_crowded}

-- the end of the row that position p is in
abbrev pub row_end : (r p : ℕ) → ℕ
row_end r p = (p / r + 1) * r

-- the tail after position p
abbrev pub tail_at : (r : ℕ) (rows : List ℕ) (p : ℕ) → Tail
tail_at r rows p = record { row = p / r; nodes = take (row_end r p - (p + 1)) (drop (p + 1) rows) }

abbrev pub tails_at : (r : ℕ) (rows chain : List ℕ) → List Tail
tails_at r rows chain = map (tail_at r rows) chain

-- n positions from p on, each named by the one before it
unfoldable pub follow : (n : ℕ) (next : List ℕ) (p : ℕ) → List ℕ
follow zero next p = []
follow (suc n) next p = p ∷ follow n next (get_or next p 0)

-- the positions of a chain
abbrev pub positions : (next : List ℕ) (chain : Chain) → List ℕ
positions next chain = follow chain.count next chain.head

-- the node that a chain's positions have
abbrev pub node_of : (rows : List ℕ) (chain : Chain) → ℕ
node_of rows chain = get_or rows chain.head 0

-- the positions of node v
abbrev pub chain : (heads counts next : List ℕ) (v : ℕ) → List ℕ
chain heads counts next v = follow (get_or counts v 0) next (get_or heads v 0)

-- the chain of node v after the n positions from f on are linked
unfoldable pub linked : (rows : List ℕ) (v f n : ℕ) (found : List ℕ) → List ℕ
linked rows v f zero found = found
linked rows v f (suc n) found = linked rows v (suc f) n (cond (eqb v (get_or rows f 0)) (f ∷ found) found)

-- how many of the n positions from f on have node v
unfoldable pub times : (rows : List ℕ) (v f n : ℕ) → ℕ
times rows v f zero = 0
times rows v f (suc n) = tally (eqb v (get_or rows f 0)) (times rows v (suc f) n)

-- the least of `least` and the positions' row numbers
unfoldable pub lowest_at : (r least : ℕ) → List ℕ → ℕ
lowest_at r least [] = least
lowest_at r least (p ∷ chain) = lowest_at r (min least (p / r)) chain

-- p is not one of the positions from `from` to `to`
abbrev pub Outside : (from to p : ℕ) → Type 0
Outside from to p = from ≤ p → to ≤ p

-- no two of the positions are in one row
abbrev pub Apart : (r : ℕ) → List ℕ → Type 0
Apart r [] = Unit
Apart r (p ∷ chain) = All (λ q. q / r ≡ p / r → ⊥) chain × Apart r chain

-- p is a position of node v in a whole row
abbrev pub Placed : (r : ℕ) (rows : List ℕ) (v p : ℕ) → Type 0
Placed r rows v p = (row_end r p ≤ length rows) × (get_or rows p 0 ≡ v)

-- positions of node v, no two in one row
abbrev pub Chained : (r : ℕ) (rows : List ℕ) (v : ℕ) → List ℕ → Type 0
Chained r rows v chain = All (Placed r rows v) chain × Apart r chain

-- every whole row ascends
abbrev pub Ascends : (r : ℕ) → List ℕ → Type 0
Ascends r rows = (p q : ℕ) → p < q → q < row_end r p → row_end r p ≤ length rows → get_or rows p 0 < get_or rows q 0

-- every node, or every chain's length, is at most m
abbrev pub AtMost : (m : ℕ) → List ℕ → Type 0
AtMost m l = (i : ℕ) → get_or l i 0 ≤ m

-- the chains of the nodes below v are empty
abbrev pub EmptyBelow : (v : ℕ) (counts : List ℕ) → Type 0
EmptyBelow v counts = (u : ℕ) → u < v → get_or counts u 0 ≡ 0

-- no chain of the nodes from `from` to `to` is longer than the bound
abbrev pub ShortFrom : (from to bound : ℕ) (counts : List ℕ) → Type 0
ShortFrom from to bound counts = (u : ℕ) → from ≤ u → u < to → get_or counts u 0 ≤ bound

-- none of the positions from `from` to `to` is in a chain
abbrev pub Fresh : (from to : ℕ) (heads counts next : List ℕ) → Type 0
Fresh from to heads counts next = (v : ℕ) → All (Outside from to) (chain heads counts next v)

-- each node's chain is as it should be
abbrev pub AllChained : (r : ℕ) (rows heads counts next : List ℕ) → Type 0
AllChained r rows heads counts next = (v : ℕ) → Chained r rows v (chain heads counts next v)

-- `last` names the same as `next` for a position outside, and for one whose node is at most v
abbrev pub KeptOutside : (from to : ℕ) (next last : List ℕ) → Type 0
KeptOutside from to next last = (p : ℕ) → Outside from to p → get_or last p 0 ≡ get_or next p 0

abbrev pub KeptTo : (v : ℕ) (rows next last : List ℕ) → Type 0
KeptTo v rows next last = (p : ℕ) → get_or rows p 0 ≤ v → get_or last p 0 ≡ get_or next p 0

-- each node's chain has the linked positions in front
abbrev pub Linked : (rows : List ℕ) (from n : ℕ) (heads counts next heads' counts' next' : List ℕ) → Type 0
Linked rows from n heads counts next heads' counts' next' =
    (v : ℕ) → chain heads' counts' next' v ≡ linked rows v from n (chain heads counts next v)

-- each node's chain holds the tails after that node
abbrev pub Grown : (w : ℕ) (tails : List Tail) (r : ℕ) (rows heads counts next : List ℕ) → Type 0
Grown w tails r rows heads counts next = (v : ℕ) → tails_at r rows (chain heads counts next v) ≡ tails_after w v tails []

-- the least of `least` and the row numbers that are crowded in one of the chains
abbrev pub lowest_child : (w bound r : ℕ) (rows heads counts next : List ℕ) (least : ℕ) → ℕ
lowest_child w bound r rows heads counts next least =
    over_nodes (λ v least. lowest_crowded w bound (tails_at r rows (chain heads counts next v)) least) 256 least

-- what is kept where only nodes that have a chain are visited
abbrev pub KeptBelow : (rows counts next last : List ℕ) → Type 0
KeptBelow rows counts next last = (v : ℕ) → EmptyBelow (v + 1) counts → KeptTo v rows next last

-- each node's count is raised by the positions that have the node
abbrev pub Counted : (rows : List ℕ) (from n : ℕ) (counts last : List ℕ) → Type 0
Counted rows from n counts last = (v : ℕ) → get_or last v 0 ≡ get_or counts v 0 + times rows v from n

-- the largest number of tails after one node
abbrev pub largest_after : (w : ℕ) (tails : List Tail) → ℕ
largest_after w tails = largest (map (λ v. length (tails_after w v tails [])) (up_to 256))

-- what no node has more tails after it than, of those that leave w-1 nodes: exact where w is 1, the number of tails else
abbrev pub most_after : (w : ℕ) (tails : List Tail) → ℕ
most_after w tails = cond (eqb w 1) (largest_after 0 tails) (length tails)
