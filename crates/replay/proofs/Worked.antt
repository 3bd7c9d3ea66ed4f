-- Logs worked by hand, most of them on document 01's nine records: rows 012, 345 and the seven rows of layer 1, s = 2, k = 3, figure 5.
-- Assumes nothing.
use Prim.Native.Nat.{ℕ}
use mathlib.Core.Path.{◌≡◌, refl}
use mathlib.Core.Bool.{true, false}
use mathlib.Core.List.{List, [], ◌∷◌, flatten}
use mathlib.Core.Option.{none, some}
use Rattle.lists.specs.Lists.{count}
use Rattle.refusal.specs.declared.Refusal.TheVariants.{EarlierEvent, BadEvent}
use Rattle.refusal.specs.Refusals.{result, refusal}
use Rattle.refusal.specs.Checked.{accepted, refused}
use Rattle.packing.specs.Failures.{usable}
use Rattle.number.specs.Numbers.{read_groups, read_number}
use Rattle.layers.specs.Layers.{read_kind, read_base}
use Rattle.placement.specs.Placement.{read_placement, check_placement}
use Rattle.placement.specs.SevenCabinets.{placement_file, seven_placement}
use Rattle.placement.proofs.Worked.{placements}
use Rattle.replay.specs.declared.Event.{Event}
use Rattle.replay.specs.Log.{check_events, check_log}
use Rattle.replay.specs.Replays.{Lowest, lowest_from, lowest_of, check_replay}
use Rattle.replay.specs.Answers.{replay_answer, replay_outcome}

abbrev goes : (time node : ℕ) → Event
goes time node = record { time = time; node = record { 0 = node }; down = true }

abbrev comes : (time node : ℕ) → Event
comes time node = record { time = time; node = record { 0 = node }; down = false }

abbrev nine : List ℕ
nine = placement_file 2 5

-- "an event earlier than the one before" and "a node not below n or a change to the state it is already in": "the first bad event counts,
-- 19 before 20". The first event is never 19; equal times are taken; node 6 of 7 is taken and node 7 is not.
pub logs-by-hand : (check_log 7 (goes 0 0 ∷ []) ≡ accepted tt)
    × (check_log 7 (goes 5 6 ∷ comes 5 6 ∷ goes 4_294_967_295 6 ∷ []) ≡ accepted tt)
    × (check_log 7 (goes 5 6 ∷ comes 4 6 ∷ []) ≡ refused (EarlierEvent 1))
    × (check_log 7 (goes 5 7 ∷ []) ≡ refused (BadEvent 0))
    × (check_log 7 (comes 5 0 ∷ []) ≡ refused (BadEvent 0))
    × (check_log 7 (goes 5 0 ∷ goes 6 0 ∷ []) ≡ refused (BadEvent 1))
    × (check_log 7 (goes 5 0 ∷ goes 4 7 ∷ []) ≡ refused (EarlierEvent 1))
    × (check_log 7 (goes 5 0 ∷ goes 6 7 ∷ goes 5 1 ∷ []) ≡ refused (BadEvent 1))
    × (check_log 7 (goes 5 0 ∷ goes 4 1 ∷ goes 5 0 ∷ []) ≡ refused (EarlierEvent 1))
    × (check_log 7 (goes 5 0 ∷ goes 5 1 ∷ comes 5 2 ∷ []) ≡ refused (BadEvent 2))
unfolding check_events
logs-by-hand = (refl, refl, refl, refl, refl, refl, refl, refl, refl, refl)

-- The lowest number and the first event after which it stood. Row 012 stands twice, so nodes 0 and 1 down leave 7; with 3 down as well 034
-- and 135 fail too, and 5 are left, which is the figure. After 0 is up and down again there are 5 once more: the first such event counts. A
-- node down alone leaves all nine: the number is b, and the event 0.
abbrev lowest : ℕ → ℕ → Lowest
lowest number event = record { number = number; event = some event }

pub nine-replayed : (check_replay nine [] ≡ accepted (record { number = 9; event = none }))
    × (check_replay nine (goes 1 0 ∷ []) ≡ accepted (lowest 9 0))
    × (check_replay nine (goes 1 0 ∷ comes 2 0 ∷ goes 2 0 ∷ []) ≡ accepted (lowest 9 0))
    × (check_replay nine (goes 1 0 ∷ goes 1 1 ∷ []) ≡ accepted (lowest 7 1))
    × (check_replay nine (goes 1 0 ∷ goes 1 1 ∷ goes 3 3 ∷ comes 4 0 ∷ goes 4 0 ∷ []) ≡ accepted (lowest 5 2))
    × (check_replay nine (goes 1 0 ∷ goes 1 1 ∷ comes 2 1 ∷ goes 3 1 ∷ comes 4 0 ∷ []) ≡ accepted (lowest 7 1))
unfolding count usable flatten check_events lowest_from lowest_of check_replay check_placement seven_placement
nine-replayed =
    (rw placements.1 refl, rw placements.1 refl, rw placements.1 refl, rw placements.1 refl, rw placements.1 refl, rw placements.1 refl)

-- "The placement is checked, then the whole log": the placement's refusal is the answer where both are bad, and a bad last event where
-- the log is
pub refused-by-hand : (replay_outcome (replay_answer (check_replay [] (comes 1 0 ∷ []))) ≡ refusal 1 0)
    × (replay_outcome (replay_answer (check_replay nine (goes 1 0 ∷ goes 1 1 ∷ goes 0 2 ∷ []))) ≡ refusal 19 2)
    × (replay_outcome (replay_answer (check_replay nine (goes 1 0 ∷ goes 1 1 ∷ goes 1 1 ∷ []))) ≡ refusal 20 2)
unfolding count usable flatten check_events lowest_from lowest_of check_replay check_placement seven_placement read_groups read_number read_kind read_base read_placement
refused-by-hand = (refl, rw placements.1 refl, rw placements.1 refl)

-- the answer as numbers: the lowest number and the event, or the number alone
pub answers-by-hand : (replay_outcome (replay_answer (check_replay nine (goes 1 0 ∷ goes 1 1 ∷ []))) ≡ result (7 ∷ 1 ∷ []))
    × (replay_outcome (replay_answer (check_replay nine [])) ≡ result (9 ∷ []))
answers-by-hand = (rw nine-replayed.3 refl, rw nine-replayed.0 refl)
