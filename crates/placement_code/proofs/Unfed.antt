-- A placement without feeders: its rows are checked as a pack's blocks are. Assumes nothing.
use Prim.Native.Nat.{ℕ, ◌+◌, ◌*◌}
use Rattle.std.specs.Prelude.{⊤, Result, Ok, Err, IsOk}
use mathlib.Core.Path.{◌≡◌, refl}
use mathlib.Core.Bool.{false}
use mathlib.Core.List.{List, []}
use mathlib.Core.Option.{none}
use lib.ListN.{drop}
use Rattle.refusal.specs.Checked.{Checked, accepted, refused, ◌>>=◌, map_accepted, verdict}
use Rattle.layers.specs.Layers.{Layer, Site, sizes, all_rows, layers_at, check_length, check_end, check_ascending, check_service, check_packings, check_rows}
use Rattle.layers.specs.declared.LayerHead.{LayerHead}
use Rattle.placement.specs.Feeders.{fed, read_feeders, check_apart}
use Rattle.placement.specs.Placement.{Rows, check_records}
use Rattle.placement.specs.Answers.{records_check}
use Rattle.placement_code.specs.Loaded.{unfed}
use Rattle.refusal.specs.declared.Refusal.{Refusal}

-- rows without feeders
abbrev pub plain_rows : List Layer → Rows
plain_rows layers = record { layers = layers; feeders = none }

-- the five checks, and what is handed on
chain : (a b c d e : Checked Unit) (layers : List Layer)
    → (a >>= λ _. b >>= λ _. c >>= λ _. d >>= λ _. e >>= λ _. accepted (plain_rows layers))
    ≡ map_accepted plain_rows (a >>= λ _. b >>= λ _. c >>= λ _. d >>= λ _. e >>= λ _. accepted layers)
chain (refused x) b c d e layers = refl
chain (accepted u) (refused x) c d e layers = refl
chain (accepted u) (accepted v) (refused x) d e layers = refl
chain (accepted u) (accepted v) (accepted w) (refused x) e layers = refl
chain (accepted u) (accepted v) (accepted w) (accepted y) (refused x) layers = refl
chain (accepted u) (accepted v) (accepted w) (accepted y) (accepted z) layers = refl

unfed-rows : (kind : ℕ) (base : Site) (k : ℕ) (heads : List LayerHead) (s : List ℕ) (at : ℕ) → fed kind ≡ false
    → check_records kind base k heads s at ≡ map_accepted plain_rows (check_rows base heads s at)
unfolding check_records check_rows read_feeders check_apart
unfed-rows kind base k heads s at is =
    let end = at + sizes heads * base.r in
    let layers = layers_at base.r heads (drop at s) in
    rw is
    (chain (check_length s end) (check_end s end) (check_ascending base at (all_rows layers)) (check_service base at (all_rows layers))
    (check_packings base.r at layers) layers)

-- the code's answer
pub unfed-answer : (kind : ℕ) (base : Site) (k : ℕ) (heads : List LayerHead) (s : List ℕ) (at : ℕ) {v : Result ⊤ Refusal} → fed kind ≡ false
    → v ≡ verdict (check_rows base heads s at)
    → unfed v ≡ records_check (check_records kind base k heads s at)
unfed-answer kind base k heads s at is e =
    rw (e, unfed-rows kind base k heads s at is) (go (check_rows base heads s at))
  where
    go : (m : Checked (List Layer))
        → unfed (verdict m) ≡ records_check (map_accepted plain_rows m)
    go (accepted layers) = refl
    go (refused why) = refl

-- a table comes of a good verdict
pub unfed-good : (v : Result ⊤ Refusal) → IsOk (unfed v) → v ≡ Ok tt
unfed-good (Ok tt) good = refl
unfed-good (Err e) good = cc
