-- Document 01's starred cases in a single conjunction, with the pack and the placement of its "Seven cabinets" beside
-- them. Each part is computed in its own crate. Assumes nothing.
use mathlib.Core.Path.{◌≡◌, ap}
use mathlib.Core.List.{[], ◌∷◌, ◌++◌}
use lib.ListN.{length, take}
use Rattle.refusal.specs.Refusals.{result, refusal}
use Rattle.refusal.specs.Checked.{accepted}
use Rattle.binomial.specs.Choose.{choose}
use Rattle.binomial.proofs.Worked.{binomials}
use Rattle.number.specs.Numbers.{number_bytes, read_number}
use Rattle.number.specs.Answers.{number_read, read_outcome}
use Rattle.number.proofs.Worked.{numbers}
use Rattle.packing.specs.SevenCabinets.{row245}
use Rattle.pack.specs.Pack.{read_pack}
use Rattle.pack.specs.Answers.{pack_checked, pack_outcome}
use Rattle.pack.specs.SevenCabinets.{pack_bytes}
use Rattle.pack.proofs.Worked.{packs}
use Rattle.placement.specs.Placement.{read_placement, placement_bytes}
use Rattle.placement.specs.Answers.{placement_checked, placement_outcome}
use Rattle.placement.specs.SevenCabinets.{placement_file, listed_file, seven_placement}
use Rattle.placement.proofs.Worked.{placements, placements-of-kind-3, placements-of-kind-5}
use Rattle.planner.specs.Answers.{plan_answer, plan_outcome}
use Rattle.planner.specs.SevenCabinets.{plan_p}
use Rattle.planner.proofs.Worked.{orders}
use Rattle.report.specs.Programs.{accepted_word, check_line}
use Rattle.report.proofs.Worked.{lines}

pub starred :
    -- C(5,2) = 10; C(2,3) = 0; C(254,5) = 8,468,125,050
    (choose 5 2 ≡ 10)
    × (choose 2 3 ≡ 0)
    × (choose 254 5 ≡ 8_468_125_050)
    -- 0, 127, 128, 300 are bytes 0; 127; 128 1; 172 2. By request (b) "the starred bytes 128 0 now read as 0, length 2": the
    -- next place less 0
    × (number_bytes 0 ≡ 0 ∷ [])
    × (number_bytes 127 ≡ 127 ∷ [])
    × (number_bytes 128 ≡ 128 ∷ 1 ∷ [])
    × (number_bytes 300 ≡ 172 ∷ 2 ∷ [])
    × (read_outcome (number_read (read_number (128 ∷ 0 ∷ []) 0)) ≡ result (0 ∷ 2 ∷ []))
    -- P's layer 1 with its last row 246: refusal 7, place 27
    × (pack_outcome (pack_checked (read_pack (pack_bytes (2 ∷ 4 ∷ 6 ∷ [])))) ≡ refusal 7 27)
    -- with P, the length, F and the counts: s 2, k 2, b 7: F 6. s 2, k 3, b 7: F 4. s 2, k 3, b 9: F 5, counts 2 and 7.
    -- s 2, k 2, b 9: F 7, counts 0 and 9. s 3, k 4, b 7: F 6, by request (d) "where it had 5". s 2, k 2, b 1: F 0
    × (plan_outcome (plan_answer (plan_p 2 2 7)) ≡ result (33 ∷ 6 ∷ 0 ∷ 7 ∷ 0 ∷ 0 ∷ 0 ∷ []))
    × (plan_outcome (plan_answer (plan_p 2 3 7)) ≡ result (33 ∷ 4 ∷ 0 ∷ 7 ∷ 0 ∷ 0 ∷ 0 ∷ []))
    × (plan_outcome (plan_answer (plan_p 2 3 9)) ≡ result (39 ∷ 5 ∷ 2 ∷ 7 ∷ 0 ∷ 0 ∷ 0 ∷ []))
    × (plan_outcome (plan_answer (plan_p 2 2 9)) ≡ result (39 ∷ 7 ∷ 0 ∷ 9 ∷ 0 ∷ 0 ∷ 0 ∷ []))
    × (plan_outcome (plan_answer (plan_p 3 4 7)) ≡ result (35 ∷ 6 ∷ 0 ∷ 7 ∷ 0 ∷ 0 ∷ 0 ∷ []))
    × (plan_outcome (plan_answer (plan_p 2 2 1)) ≡ result (15 ∷ 0 ∷ 0 ∷ 1 ∷ 0 ∷ 0 ∷ 0 ∷ []))
    -- P's 36 bytes are accepted: n, r, the first block's place, then mu and m of each layer, and by request (h) an empty list
    × (length (pack_bytes row245) ≡ 36)
    × (pack_outcome (pack_checked (read_pack (pack_bytes row245)))
    ≡ result (7 ∷ 3 ∷ 9 ∷ 1 ∷ 2 ∷ 1 ∷ 7 ∷ 1 ∷ 0 ∷ 0 ∷ 0 ∷ 0 ∷ 0 ∷ 0 ∷ []))
    -- order s = 2, k = 3, b = 9 gives the whole file: by request (h) "39, beginning 5 7 3 0 2". They are accepted, and so are the 38
    -- bytes that begin with 2, and by request (d) with 3: the kind, n, r, s, k, b, F, the first row's place, then lambda and c of
    -- each layer, and the list. `check` prints `accepted 5 9 3 7 4 4` for all three
    × (plan_p 2 3 9 ≡ accepted (seven_placement 5))
    × (placement_bytes (seven_placement 5) ≡ listed_file (0 ∷ []) 5)
    × (length (listed_file (0 ∷ []) 5) ≡ 39)
    × (take 5 (listed_file (0 ∷ []) 5) ≡ 5 ∷ 7 ∷ 3 ∷ 0 ∷ 2 ∷ [])
    × (placement_outcome (placement_checked (read_placement (listed_file (0 ∷ []) 5)))
    ≡ result (5 ∷ 7 ∷ 3 ∷ 2 ∷ 3 ∷ 9 ∷ 5 ∷ 12 ∷ 1 ∷ 2 ∷ 1 ∷ 7 ∷ 0 ∷ 0 ∷ 0 ∷ 0 ∷ 0 ∷ 0 ∷ 0 ∷ []))
    × (length (placement_file 2 5) ≡ 38)
    × (placement_outcome (placement_checked (read_placement (placement_file 3 5)))
    ≡ result (3 ∷ 7 ∷ 3 ∷ 2 ∷ 3 ∷ 9 ∷ 5 ∷ 11 ∷ 1 ∷ 2 ∷ 1 ∷ 7 ∷ 0 ∷ 0 ∷ 0 ∷ 0 ∷ 0 ∷ 0 ∷ 0 ∷ []))
    × (placement_outcome (placement_checked (read_placement (placement_file 2 5)))
    ≡ result (2 ∷ 7 ∷ 3 ∷ 2 ∷ 3 ∷ 9 ∷ 5 ∷ 11 ∷ 1 ∷ 2 ∷ 1 ∷ 7 ∷ 0 ∷ 0 ∷ 0 ∷ 0 ∷ 0 ∷ 0 ∷ 0 ∷ []))
    × (check_line (placement_file 2 5)
    ≡ accepted_word ++ (32 ∷ 53 ∷ 32 ∷ 57 ∷ 32 ∷ 51 ∷ 32 ∷ 55 ∷ 32 ∷ 52 ∷ 32 ∷ 52 ∷ 10 ∷ []))
    × (check_line (placement_file 3 5)
    ≡ accepted_word ++ (32 ∷ 53 ∷ 32 ∷ 57 ∷ 32 ∷ 51 ∷ 32 ∷ 55 ∷ 32 ∷ 52 ∷ 32 ∷ 52 ∷ 10 ∷ []))
    × (check_line (listed_file (0 ∷ []) 5)
    ≡ accepted_word ++ (32 ∷ 53 ∷ 32 ∷ 57 ∷ 32 ∷ 51 ∷ 32 ∷ 55 ∷ 32 ∷ 52 ∷ 32 ∷ 52 ∷ 10 ∷ []))
starred = (
  binomials.0,
  binomials.1,
  binomials.2,
  numbers.0,
  numbers.1,
  numbers.2,
  numbers.3,
  ap (λ a. read_outcome (number_read a)) numbers.4,
  packs.3,
  orders.0,
  orders.1,
  orders.2,
  orders.3,
  orders.4,
  orders.5,
  packs.0,
  packs.2,
  orders.6,
  orders.7,
  placements-of-kind-5.0,
  placements-of-kind-5.7,
  placements-of-kind-5.2,
  placements.0,
  placements-of-kind-3.1,
  placements.2,
  lines.0,
  lines.1,
  lines.2,
)
