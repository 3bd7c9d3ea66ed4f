-- Events in plain slices: their number, event i, and when the lengths are as stated. Assumes nothing.
use Prim.Native.Nat.{ℕ, zero, suc, ◌≤◌, ◌<◌}
use native.Mathlib.Nat.{le_of_suc-le-suc}
use native.Mathlib.Omega.{arith}
use mathlib.Core.Path.{◌≡◌, refl, ap}
use mathlib.Core.Bool.{true, false}
use mathlib.Core.List.{List, [], ◌∷◌}
use lib.ListN.{length, get_or}
use borrow.Author.Tests.{le-leb, lt-leb, eq-eqb, ne_eqb}
use Rattle.replay.specs.Log.{no_event}
use Rattle.export_replay.specs.Events.{event_of, events_of, replay_stated}

pub length-events_of : (times nodes downs : List ℕ) → length nodes ≡ length times → length downs ≡ length times
    → length (events_of times nodes downs) ≡ length times
unfolding events_of
length-events_of [] nodes downs en ed = refl
length-events_of (t ∷ times) [] downs en ed = absurd (omega (arith, en))
length-events_of (t ∷ times) (v ∷ nodes) [] en ed = absurd (omega (arith, ed))
length-events_of (t ∷ times) (v ∷ nodes) (d ∷ downs) en ed =
    ap suc (length-events_of times nodes downs (omega (arith, en)) (omega (arith, ed)))

pub get_d-events_of : (times nodes downs : List ℕ) (i : ℕ) → i < length times → length nodes ≡ length times
    → length downs ≡ length times
    → get_or (events_of times nodes downs) i no_event ≡ event_of (get_or times i 0) (get_or nodes i 0) (get_or downs i 0)
unfolding events_of
get_d-events_of [] nodes downs i lt en ed = absurd (omega arith)
get_d-events_of (t ∷ times) [] downs i lt en ed = absurd (omega (arith, en))
get_d-events_of (t ∷ times) (v ∷ nodes) [] i lt en ed = absurd (omega (arith, ed))
get_d-events_of (t ∷ times) (v ∷ nodes) (d ∷ downs) zero lt en ed = refl
get_d-events_of (t ∷ times) (v ∷ nodes) (d ∷ downs) (suc i) lt en ed =
    get_d-events_of times nodes downs i (le_of_suc-le-suc lt) (omega (arith, en)) (omega (arith, ed))

module _ (times nodes downs answer : List ℕ) where
  pub stated : 3 ≤ length answer → length nodes ≡ length times → length downs ≡ length times
      → replay_stated times nodes downs answer ≡ true
  stated long en ed =
      rw (le-leb 3 (length answer) long, eq-eqb (length nodes) (length times) en, eq-eqb (length downs) (length times) ed) refl

  pub unstated-answer : length answer < 3 → replay_stated times nodes downs answer ≡ false
  unstated-answer short = rw (lt-leb 3 (length answer) short) refl

  pub unstated-nodes : 3 ≤ length answer → (length nodes ≡ length times → ⊥) → replay_stated times nodes downs answer ≡ false
  unstated-nodes long ne = rw (le-leb 3 (length answer) long, ne_eqb (length nodes) (length times) ne) refl

  pub unstated-downs : 3 ≤ length answer → length nodes ≡ length times → (length downs ≡ length times → ⊥)
      → replay_stated times nodes downs answer ≡ false
  unstated-downs long en ne =
      rw (le-leb 3 (length answer) long, eq-eqb (length nodes) (length times) en, ne_eqb (length downs) (length times) ne) refl
