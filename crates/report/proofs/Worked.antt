-- Document 01's line for nine records, means, and lent slices at their limits, by computation. Assumes nothing.
use Prim.Native.Nat.{ℕ}
use mathlib.Core.Path.{◌≡◌, refl, ap}
use mathlib.Core.List.{List, [], ◌∷◌, ◌++◌, flatten}
use Rattle.lists.specs.Lists.{count, largest, up_to}
use Rattle.refusal.specs.declared.Refusal.TheVariants.{ShortOutput}
use Rattle.refusal.specs.Checked.{accepted, refused, map_accepted}
use Rattle.packing.specs.Rows.{member}
use Rattle.placement.specs.SevenCabinets.{placement_file, listed_file, seven_placement}
use Rattle.placement.proofs.Worked.{placements, placements-of-kind-3, placements-of-kind-5}
use Rattle.report.specs.Load.{half_to_even, mean}
use Rattle.report.specs.Programs.{digits, decimal, rest, accepted_word, accepted_line, summary, or_refused_line, check_line}
use Rattle.report.specs.Replies.{check_into}

-- "`check` prints `accepted 5 9 3 7 4 4`", for kinds 2, 3 and 5
pub lines : (check_line (placement_file 2 5) ≡ accepted_word ++ (32 ∷ 53 ∷ 32 ∷ 57 ∷ 32 ∷ 51 ∷ 32 ∷ 55 ∷ 32 ∷ 52 ∷ 32 ∷ 52 ∷ 10 ∷ []))
    × (check_line (placement_file 3 5) ≡ accepted_word ++ (32 ∷ 53 ∷ 32 ∷ 57 ∷ 32 ∷ 51 ∷ 32 ∷ 55 ∷ 32 ∷ 52 ∷ 32 ∷ 52 ∷ 10 ∷ []))
    × (check_line (listed_file (0 ∷ []) 5) ≡ accepted_word ++ (32 ∷ 53 ∷ 32 ∷ 57 ∷ 32 ∷ 51 ∷ 32 ∷ 55 ∷ 32 ∷ 52 ∷ 32 ∷ 52 ∷ 10 ∷ []))
unfolding count largest up_to flatten member seven_placement half_to_even digits decimal rest summary check_line
lines = (
  ap (λ a. or_refused_line (map_accepted (λ p. accepted_line (summary p)) a)) placements.1,
  ap (λ a. or_refused_line (map_accepted (λ p. accepted_line (summary p)) a)) placements-of-kind-3.0,
  ap (λ a. or_refused_line (map_accepted (λ p. accepted_line (summary p)) a)) placements-of-kind-5.1,
)

-- (a) "5 records of 2 replicas on 4 nodes make 2.5 and print 2, where 3 stood; 3.5 prints 4"; 0.5, 1.5, and two means with no
-- half: 27/7 and 10/3
pub means : (mean 5 2 4 ≡ 2)
    × (mean 7 2 4 ≡ 4)
    × (mean 1 2 4 ≡ 0)
    × (mean 3 2 4 ≡ 2)
    × (mean 9 3 7 ≡ 4)
    × (mean 5 2 3 ≡ 3)
unfolding half_to_even
means = (refl, refl, refl, refl, refl, refl)

-- a slice one byte short is refused with what is needed, and one of that length is taken
pub lent : (input : List ℕ)
    → (check_into input 199 ≡ refused (ShortOutput 200))
    × (check_into input 200 ≡ accepted (check_line input))
unfolding check_into
lent input = (refl, refl)
