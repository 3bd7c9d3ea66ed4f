-- Cases of rows and failures worked by hand. Assumes nothing.
use mathlib.Core.Path.{◌≡◌, refl}
use mathlib.Core.List.{[], ◌∷◌, ◌++◌}
use mathlib.Core.Option.{none, some}
use Rattle.lists.specs.Lists.{count, every, any, first_where, largest, up_to}
use Rattle.packing.specs.Rows.{ascending, member, holds, together, subsets, crowded, first_crowded, first_bad, repeated}
use Rattle.packing.specs.Floors.{floors_down}
use Rattle.packing.specs.Failures.{usable}
use Rattle.packing.specs.Load.{loads, most}
use Rattle.packing.specs.SevenCabinets.{rows0, rows1, row245}

-- Document 01's layer 1 is a packing of pairs; with its last row 246, row 146 (row 4) shares 4 and 6 with it. In 012 and
-- 023 nodes 0 and 2 stand together, though in 012 they are no neighbours. Equal rows are counted, in layer 0 each node.
pub crowding : (first_crowded 1 1 (rows1 row245) ≡ none)
    × (first_crowded 1 1 (rows1 (2 ∷ 4 ∷ 6 ∷ [])) ≡ some 4)
    × (first_crowded 1 1 ((0 ∷ 1 ∷ 2 ∷ []) ∷ (0 ∷ 2 ∷ 3 ∷ []) ∷ []) ≡ some 0)
    × (first_crowded 2 1 ((0 ∷ 1 ∷ 2 ∷ []) ∷ (0 ∷ 1 ∷ 2 ∷ []) ∷ []) ≡ some 0)
    × (first_crowded 0 1 rows0 ≡ none)
    × (first_crowded 0 3 (rows1 row245) ≡ none)
    × (first_crowded 0 2 (rows1 row245) ≡ some 0)
unfolding count every any first_where member holds together subsets crowded first_crowded
crowding = (refl, refl, refl, refl, refl, refl, refl)

-- a row with a node twice, with nodes out of order, and with a node at n
pub row-order : (first_bad 7 (rows1 row245) ≡ none)
    × (first_bad 7 (row245 ∷ (1 ∷ 1 ∷ 2 ∷ []) ∷ []) ≡ some 1)
    × (first_bad 7 ((1 ∷ 3 ∷ 2 ∷ []) ∷ []) ≡ some 0)
    × (first_bad 5 rows0 ≡ some 1)
unfolding every first_where ascending first_bad
row-order = (refl, refl, refl, refl)

-- with nodes 4 and 6 failed only the record of row 146 has two replicas on failed nodes
pub survivors-of-two : (usable 2 (rows1 row245) (λ v. member v (4 ∷ 6 ∷ [])) ≡ 6)
    × (usable 1 (rows1 row245) (λ v. member v (4 ∷ 6 ∷ [])) ≡ 2)
unfolding count member usable
survivors-of-two = (refl, refl)

-- each node stands in three rows of layer 1; with 246 in place of 245 node 5 stands in two and node 6 in four
pub counts : (loads 7 (rows1 row245) ≡ 3 ∷ 3 ∷ 3 ∷ 3 ∷ 3 ∷ 3 ∷ 3 ∷ [])
    × (most 7 (rows1 row245) ≡ 3)
    × (loads 7 (rows1 (2 ∷ 4 ∷ 6 ∷ [])) ≡ 3 ∷ 3 ∷ 3 ∷ 3 ∷ 3 ∷ 2 ∷ 4 ∷ [])
    × (most 7 (rows1 (2 ∷ 4 ∷ 6 ∷ [])) ≡ 4)
unfolding count largest up_to member
counts = (refl, refl, refl, refl)

-- nine rows of seven blocks
pub repeats : repeated (rows1 row245) 9 ≡ rows1 row245 ++ (0 ∷ 1 ∷ 2 ∷ []) ∷ (0 ∷ 3 ∷ 4 ∷ []) ∷ []
unfolding up_to repeated
repeats = refl

-- Request (d): 1 × 3 / 2 is 1 and 1 × 4 / 3 is 1, where 6/3 is 2; 3 × 2 is 6 and 6 × 3 / 2 is 9, where from i = 0 up 9/2 is 4
-- and 4 × 2 is 8; 5/2 is 2, 2 × 6 / 3 is 4 and 4 × 7 / 4 is 7, where 35/4 is 8
pub floors : (floors_down 4 3 1 1 ≡ 1) × (floors_down 3 2 1 3 ≡ 9) × (floors_down 7 4 2 1 ≡ 7)
unfolding floors_down
floors = (refl, refl, refl)
