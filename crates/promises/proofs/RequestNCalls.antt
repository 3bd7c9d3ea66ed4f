-- Document 02, (n): "For kind 6 the curve ends at g-1 and has g - s numbers, and exact count, rounds and log read feeders for nodes, g for
-- n." The promises of requests (c), (j), (k) and (l), which are records over what can fail, for an accepted placement of kind 6: its g
-- feeders can, and its records are lists of their nodes' feeders (`on_feeders`), all read from the file's own bytes (`FeedersAt`). That
-- replicas are counted through the feeders of their nodes is `n-through`. The checker's refusals come first in each, whatever the kind:
-- `c-checker-first`, `j-checker-first`, `k-checker-first`, `l-checker-first`. Assumes nothing.
use Prim.Native.Nat.{ℕ, suc, ◌+◌, ◌*◌, ◌-◌, ◌≤◌, ◌<◌}
use Rattle.std.specs.Prelude.{Result}
use mathlib.Core.Path.{◌≡◌, sym, ◌∙◌, ap}
use mathlib.Core.Logic.{◌⊎◌}
use mathlib.Core.Bool.{Bool}
use mathlib.Core.List.{List, [], ◌∷◌}
use lib.ListN.{length, get_or, take}
use Rattle.refusal.specs.Refusals.{result, refusal}
use Rattle.refusal.specs.Checked.{accepted, writing_outcome, WritingDone}
use Rattle.binomial.specs.Choose.{choose}
use Rattle.packing.specs.Rows.{records_in}
use Rattle.packing.specs.Failures.{usable}
use Rattle.placement.specs.Placement.{read_placement}
use Rattle.placement.specs.Answers.{placement_checked, placement_outcome}
use Rattle.curve.specs.Curve.{check_curve}
use Rattle.worst.specs.Worst.{check_worst}
use Rattle.worst.specs.Answers.{worst_outcome, WorstDone}
use Rattle.rounds.specs.Rounds.{check_rounds}
use Rattle.rounds.specs.Answers.{rounds_answer, rounds_outcome}
use Rattle.rounds.proofs.Checking.{Limits}
use Rattle.replay.specs.declared.Event.{Event}
use Rattle.replay.specs.declared.Replayed.{Replayed}
use Rattle.replay.specs.Log.{all_up, down_by, no_event, GoodAt}
use Rattle.replay.specs.Replays.{check_replay}
use Rattle.replay.specs.Answers.{replay_answer, replay_outcome}
use Rattle.walk.specs.RowWalk.{first_row, open_walk, step_row, walk_rows, walk_after}
use Rattle.walk.specs.declared.Cursor.{Cursor}
use Rattle.walk.proofs.Rows.{opens-at-first, walks-all-rows, walks-to-end}
use Rattle.promises.proofs.Says.{says}
use Rattle.promises.proofs.Fails.{FeedersAt, on_feeders, through-feeders, feeders-fail}
use Rattle.promises.proofs.RequestC.{CurveKept, curve-kept, curve-short}
use Rattle.promises.proofs.RequestJ.{WorstKept, worst-kept, worst-too-many, worst-short}
use Rattle.promises.proofs.RequestK.{RoundsKept, rounds-kept, rounds-18}
use Rattle.promises.proofs.RequestL.{ReplayKept, down_at, replay-kept, replay-never-lower, replay-accepted, replay-earlier, replay-bad-event}
use Rattle.refusal.specs.declared.Refusal.{Refusal}

-- a record that is usable as a list of feeders is usable when just the nodes on the failed feeders fail
pub n-through : (each : List ℕ) (s : ℕ) (records : List (List ℕ)) (failed : ℕ → Bool)
    → usable s (on_feeders each records) failed ≡ usable s records (λ v. failed (get_or each v 0))
n-through = through-feeders

module _ (bytes : List ℕ) {n r s k b figure first g : ℕ} {values each : List ℕ}
    (e : placement_outcome (placement_checked (read_placement bytes)) ≡ result (6 ∷ n ∷ r ∷ s ∷ k ∷ b ∷ figure ∷ first ∷ values))
    (at : FeedersAt bytes (first + b * r) n g each) where
  -- "the curve ends at g-1 and has g - s numbers": each holds whichever k' feeders fail
  module _ (out out-left : List ℕ) (given : Result ℕ Refusal) (done : WritingDone (check_curve bytes (length out)) out out-left given) where
    pub n-curve : g - s ≤ length out → CurveKept g (on_feeders each (records_in bytes first r b)) s k figure bytes out out-left given
    n-curve = curve-kept bytes out out-left given done (feeders-fail bytes e at)

    pub n-curve-short : length out < g - s → (writing_outcome given ≡ refusal 11 (g - s)) × (out-left ≡ out)
    n-curve-short = curve-short bytes out out-left given done (feeders-fail bytes e at)

  -- "exact count": the fewest usable records over all sets of k feeders, and the first such set
  module _ (out out-left : List ℕ) (given : Result ℕ Refusal) (done : WorstDone (check_worst bytes (length out)) out out-left given) where
    pub n-worst : choose g k * b ≤ 16_777_216 → k ≤ length out
        → WorstKept g (on_feeders each (records_in bytes first r b)) s k figure out out-left given
    n-worst = worst-kept bytes out out-left given done (feeders-fail bytes e at)

    pub n-worst-too-many : 16_777_216 < choose g k * b → (worst_outcome given ≡ refusal 17 0) × (out-left ≡ out)
    n-worst-too-many = worst-too-many bytes out out-left given done (feeders-fail bytes e at)

    pub n-worst-short : choose g k * b ≤ 16_777_216 → length out < k → (worst_outcome given ≡ refusal 11 k) × (out-left ≡ out)
    n-worst-short = worst-short bytes out out-left given done (feeders-fail bytes e at)

  -- "rounds": the storm takes two working feeders down, the crew brings one back; "g for n" in the limits too
  module _ (q : ℕ) (given : Result ℕ Refusal) (done : given ≡ rounds_answer (check_rounds bytes q)) where
    pub n-rounds : Limits g b q → RoundsKept g (on_feeders each (records_in bytes first r b)) s b q bytes given
    n-rounds = rounds-kept bytes q given done (feeders-fail bytes e at)

    pub n-rounds-18 : ((q < 1) ⊎ (3 < q)) ⊎ (((10 < g) ⊎ (g < q + 2)) ⊎ (256 < b)) → rounds_outcome given ≡ refusal 18 0
    n-rounds-18 = rounds-18 bytes q given done (feeders-fail bytes e at)

  -- "log": an event names a feeder, below g; for an empty log `l-empty` holds whatever the kind
  module _ (log : List Event) (given : Replayed) (done : given ≡ replay_answer (check_replay bytes log)) where
    pub n-replay : ((t : ℕ) → t < length log → GoodAt g log t) → 1 ≤ length log
        → ReplayKept g (on_feeders each (records_in bytes first r b)) s k figure log given
    n-replay = replay-kept bytes log given done (feeders-fail bytes e at)

    pub n-replay-never-lower : ((t : ℕ) → t < length log → GoodAt g log t) → 1 ≤ length log
        → ((t : ℕ) → t < length log → b ≤ usable s (on_feeders each (records_in bytes first r b)) (down_at log t))
        → replay_outcome given ≡ result (b ∷ 0 ∷ [])
    n-replay-never-lower = replay-never-lower bytes log given done (feeders-fail bytes e at)

    pub n-replay-accepted : {answer : List ℕ} → replay_outcome given ≡ result answer → (t : ℕ) → t < length log → GoodAt g log t
    n-replay-accepted answered = replay-accepted bytes log given done (feeders-fail bytes e at) answered

    pub n-replay-earlier : (t : ℕ) → suc t < length log → ((u : ℕ) → u ≤ t → GoodAt g log u)
        → (get_or log (suc t) no_event).time < (get_or log t no_event).time → replay_outcome given ≡ refusal 19 (suc t)
    n-replay-earlier = replay-earlier bytes log given done (feeders-fail bytes e at)

    -- 20: a number not below g, though it may be a node's, or a feeder that is already so
    pub n-replay-bad-event : (t : ℕ) → t < length log → ((u : ℕ) → u < t → GoodAt g log u)
        → ((before : ℕ) → suc before ≡ t → (get_or log before no_event).time ≤ (get_or log t no_event).time)
        → (g ≤ (get_or log t no_event).node.0) ⊎ (down_by all_up (take t log) (get_or log t no_event).node.0 ≡ (get_or log t no_event).down)
        → replay_outcome given ≡ refusal 20 t
    n-replay-bad-event = replay-bad-event bytes log given done (feeders-fail bytes e at)

-- A row walk on it hands out its b rows of nodes, and then the end for ever: the numbers after the rows are never handed out. The page
-- and the line that `check` prints speak of nodes in every kind (`m-page`, `f-most-largest`, `a-half-to-even`).
pub n-walk : (bytes : List ℕ) {kind n r s k b figure first : ℕ} {values : List ℕ}
    → placement_outcome (placement_checked (read_placement bytes)) ≡ result (kind ∷ n ∷ r ∷ s ∷ k ∷ b ∷ figure ∷ first ∷ values)
    → (walk : Cursor) × (open_walk bytes ≡ accepted walk) × (walk_rows b bytes walk ≡ records_in bytes first r b)
    × ((m : ℕ) → step_row bytes (walk_after (b + m) bytes walk) ≡ [])
n-walk bytes {b = b} e =
    let y = says bytes e in
    let file = y.file in (
      first_row file,
      opens-at-first bytes file y.reads,
      ap (λ c. walk_rows c bytes (first_row file)) (sym y.b-is) ∙ walks-all-rows bytes file y.reads ∙ y.records,
      λ m. ap (λ c. step_row bytes (walk_after (c + m) bytes (first_row file))) (sym y.b-is) ∙ (walks-to-end bytes file y.reads m).0,
    )
