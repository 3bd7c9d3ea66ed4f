-- The game worked by hand. Assumes nothing.
use Prim.Native.Nat.{ℕ, suc, ◌+◌, ◌≤◌}
use native.Mathlib.Omega.{arith}
use mathlib.Core.Path.{◌≡◌, refl}
use mathlib.Core.Bool.{Bool, true, false, ◌||◌}
use mathlib.Core.List.{List, [], ◌∷◌, flatten}
use lib.Dec.{eqb, lit≤}
use Rattle.lists.specs.Lists.{All, count, every, up_to}
use Rattle.refusal.specs.declared.Refusal.TheVariants.{BadRounds}
use Rattle.refusal.specs.Checked.{accepted, refused}
use Rattle.binomial.specs.Choose.{choose}
use Rattle.packing.specs.Rows.{ascending, Row, member, Packing}
use Rattle.packing.specs.Failures.{Failure, usable}
use Rattle.packing.specs.SevenCabinets.{rows1, row245}
use Rattle.packing.proofs.Test.{packing-iff-uncrowded}
use Rattle.packing.proofs.Worked.{crowding}
use Rattle.packing.proofs.Survivors.{failed-le-loss}
use Rattle.placement.specs.Placement.{check_placement}
use Rattle.placement.specs.SevenCabinets.{placement_file, seven_placement}
use Rattle.placement.proofs.Worked.{placements}
use Rattle.rounds.specs.Game.{least_over, most_over, pairs, best_cut, crew, storm, rounds}
use Rattle.rounds.specs.Rounds.{rounds_taken, rounds_of, check_rounds}
use Rattle.rounds.proofs.Number.{rows-below, rounds-le, rounds-ge}

-- One record on each of nodes 0, 1 and 2, none on 3 and 4; nodes 0 and 3 are down, with a repair and a cut to come. Bringing back 0
-- leaves the storm two of the records, bringing back 3 all three, so the crew keeps one. From the start the storm gets all.
abbrev three : List (List ℕ)
three = (0 ∷ []) ∷ (1 ∷ []) ∷ (2 ∷ []) ∷ []

pub crew-by-hand : (storm 5 3 (usable 1 three) 0 (eqb 3) ≡ 1) × (storm 5 3 (usable 1 three) 0 (eqb 0) ≡ 0)
    × (crew 5 3 (usable 1 three) 1 (λ v. eqb 0 v || eqb 3 v) ≡ 1)
    × (rounds 5 1 three 1 ≡ 1)
    × (rounds 5 1 three 2 ≡ 0)
unfolding least_over most_over pairs best_cut crew rounds usable count up_to
crew-by-hand = (refl, refl, refl, refl, refl)

-- "If q+1 is below s it is b", and not where it is s
abbrev pair01 : List (List ℕ)
pair01 = (0 ∷ 1 ∷ 2 ∷ []) ∷ []

pub below-s-by-hand : (rounds 4 3 pair01 1 ≡ 1) × (rounds 4 2 pair01 1 ≡ 0)
unfolding least_over most_over pairs best_cut crew rounds usable count up_to
below-s-by-hand = (refl, refl)

-- "if q is outside 1 to 3, n is above 10 or below q+2, or b is above 256": both sides of each limit
pub limits-by-hand : (rounds_taken 10 256 1 ≡ true) × (rounds_taken 10 256 3 ≡ true) × (rounds_taken 5 1 3 ≡ true)
    × (rounds_taken 10 256 0 ≡ false)
    × (rounds_taken 10 256 4 ≡ false)
    × (rounds_taken 11 256 3 ≡ false)
    × (rounds_taken 4 256 3 ≡ false)
    × (rounds_taken 10 257 3 ≡ false)
limits-by-hand = (refl, refl, refl, refl, refl, refl, refl, refl)

-- the call on document 01's nine records
pub nine-rounds : (check_rounds (placement_file 2 5) 1 ≡ accepted 7) × (check_rounds (placement_file 2 5) 0 ≡ refused BadRounds)
    × (check_rounds (placement_file 2 5) 4 ≡ refused BadRounds)
unfolding least_over most_over pairs best_cut crew rounds usable count up_to rounds_of check_rounds check_placement seven_placement flatten
nine-rounds = (rw placements.1 refl, rw placements.1 refl, rw placements.1 refl)

-- Document 01's seven rows of layer 1, s = 2: q = 1, 2, 3 give 6, 4, 1. At least that many by the packing, whichever nodes fail, and
-- no more for nodes 0, 1, then 3, then 6, no three of which share a row.
abbrev seven : List (List ℕ)
seven = rows1 row245

rows-in-order : All (Row 7 3) seven
unfolding ascending every
rows-in-order =
    ((refl, tt), ((refl, tt), ((refl, tt), ((refl, tt), ((refl, tt), ((refl, tt), ((refl, tt), tt)))))))

packing : Packing 1 1 seven
packing = (packing-iff-uncrowded 1 1 seven 7 3 rows-in-order).0 crowding.0

seven-least : (q x : ℕ) → 1 ≤ q → suc q ≤ 7 → x + choose (suc q) 2 ≤ 7 → x ≤ rounds 7 2 seven q
unfolding choose
seven-least q x least room fits =
    rounds-ge 7 2 seven q least room x
    (λ failed e. omega (arith, failed-le-loss 7 3 1 2 (suc q) 1 seven failed (omega arith) rows-in-order packing e))

seven-most : (q : ℕ) (failed : ℕ → Bool) → 1 ≤ q → Failure 7 (suc q) failed → rounds 7 2 seven q ≤ usable 2 seven failed
seven-most q failed least e = rounds-le 7 2 seven q least (rows-below 7 3 seven rows-in-order) failed e

pub seven-rounds : (rounds 7 2 seven 1 ≡ 6) × (rounds 7 2 seven 2 ≡ 4) × (rounds 7 2 seven 3 ≡ 1)
unfolding usable count up_to member choose
seven-rounds =
    let two = seven-most 1 (λ v. member v (0 ∷ 1 ∷ [])) (lit≤ tt) refl in
    let three_down = seven-most 2 (λ v. member v (0 ∷ 1 ∷ 3 ∷ [])) (lit≤ tt) refl in
    let four = seven-most 3 (λ v. member v (0 ∷ 1 ∷ 3 ∷ 6 ∷ [])) (lit≤ tt) refl in (
      omega (arith, two, seven-least 1 6 (lit≤ tt) (lit≤ tt) (lit≤ tt)),
      omega (arith, three_down, seven-least 2 4 (lit≤ tt) (lit≤ tt) (lit≤ tt)),
      omega (arith, four, seven-least 3 1 (lit≤ tt) (lit≤ tt) (lit≤ tt)),
    )
