-- The true worst case of small rows, worked by hand. Assumes nothing.
use Prim.Native.Nat.{ℕ}
use mathlib.Core.Path.{◌≡◌, refl}
use mathlib.Core.Bool.{true, false}
use mathlib.Core.List.{List, [], ◌∷◌, flatten}
use Rattle.lists.specs.Lists.{count}
use Rattle.refusal.specs.declared.Refusal.TheVariants.{ShortOutput, TooManySets}
use Rattle.refusal.specs.Checked.{accepted, refused}
use Rattle.binomial.specs.Choose.{choose}
use Rattle.packing.specs.Rows.{member}
use Rattle.packing.specs.Failures.{usable}
use Rattle.packing.specs.SevenCabinets.{rows1, row245}
use Rattle.placement.specs.SevenCabinets.{placement_file, seven_placement}
use Rattle.placement.proofs.Worked.{placements, placements-of-kind-3}
use Rattle.worst.specs.Worst.{through, nodes_from, worst_over, few_sets, worst_of, check_worst}
use Rattle.worst.specs.Asked.{worst_from}
use Rattle.worst.proofs.Through.{at}

-- seven records on P's layer 1 (the Fano plane), s 2: any three nodes that are no row share three rows by two, so four of the
-- seven stay usable; three nodes of a row would leave six
pub fano : worst_over 7 2 3 7 (rows1 row245) ≡ at 4 (0 ∷ 1 ∷ 3 ∷ [])
unfolding through nodes_from usable count member
fano = refl

-- two records, one replica is enough to fail: the last node holds both. With one record on nodes 0 and 1 and one on 1 and 2, of
-- the sets 0 1, 0 2, 1 2 of two nodes all leave none, and the first is given
pub small : (worst_over 3 1 1 2 ((1 ∷ 2 ∷ []) ∷ (0 ∷ 2 ∷ []) ∷ []) ≡ at 0 (2 ∷ []))
    × (worst_over 3 1 2 2 ((0 ∷ 1 ∷ []) ∷ (1 ∷ 2 ∷ []) ∷ []) ≡ at 0 (0 ∷ 1 ∷ []))
    × (worst_over 3 2 2 2 ((0 ∷ 1 ∷ []) ∷ (1 ∷ 2 ∷ []) ∷ []) ≡ at 1 (0 ∷ 1 ∷ []))
unfolding through nodes_from usable count member
small = (refl, refl, refl)

-- document 01's nine records, of either kind; two bytes are too few for the set
pub nine : (check_worst (placement_file 2 5) 3 ≡ accepted (at 5 (0 ∷ 1 ∷ 3 ∷ [])))
    × (check_worst (placement_file 3 5) 4 ≡ accepted (at 5 (0 ∷ 1 ∷ 3 ∷ [])))
    × (check_worst (placement_file 2 5) 2 ≡ refused (ShortOutput 3))
unfolding check_worst worst_of seven_placement flatten choose through nodes_from usable count member
nine = (rw placements.1 refl, rw placements-of-kind-3.0 refl, rw placements.1 refl)

-- "above 16,777,216": C(33,3) × 3,075 = 16,777,200 is not, C(146,2) × 1,585 = 16,777,225 is; then 17, however short the output is
pub limits : (few_sets 33 3 3_075 ≡ true) × (few_sets 146 2 1_585 ≡ false) × (few_sets 255 254 4_096 ≡ true)
unfolding choose
limits = (refl, refl, refl)

pub seventeen-first : (rows : List ℕ)
    → worst_from (record { n = 146; r = 2 }) (record { s = 2; k = 2; b = 1_585 }) rows 0 ≡ refused TooManySets
unfolding worst_from choose
seventeen-first rows = refl
