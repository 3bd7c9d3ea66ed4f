-- Document 02, (l): "Replaying an outage log", as theorems over the call's own contract: `replay_answer` of `check_replay` is what
-- `replay_code::replay` ensures of its answer. What names a node is for placements of kinds 2, 3 and 5; in those of kind 6 an event's
-- number is a feeder's, and their promises are in `RequestN`. Assumes nothing.
use Prim.Native.Nat.{ℕ, zero, suc, ◌≤◌, ◌<◌}
use native.Mathlib.Omega.{arith}
use mathlib.Core.Path.{◌≡◌, refl, sym, ◌∙◌, ap}
use mathlib.Core.Logic.{◌⊎◌}
use mathlib.Core.Bool.{Bool, false}
use mathlib.Core.List.{List, [], ◌∷◌}
use mathlib.Core.Option.{Option, none, some}
use lib.ListN.{length, get_or, take}
use borrow.Author.Tests.{eq-eqb, ne_eqb}
use Rattle.lists.specs.Lists.{count, up_to}
use Rattle.refusal.specs.declared.Refusal.TheVariants.{EarlierEvent, BadEvent}
use Rattle.refusal.specs.Refusals.{result, refusal}
use Rattle.refusal.specs.Checked.{Checked, accepted, refused, ◌>>=◌, outcome}
use Rattle.packing.specs.Rows.{records_in}
use Rattle.packing.specs.Failures.{usable}
use Rattle.layers.specs.Layers.{Located}
use Rattle.placement.specs.Placement.{Placement, read_placement, check_placement}
use Rattle.placement.specs.Units.{units, unit_rows}
use Rattle.placement.specs.Answers.{placement_checked, placement_outcome}
use Rattle.rounds.proofs.Number.{usable-most}
use Rattle.replay.specs.declared.Event.{Event}
use Rattle.replay.specs.declared.Replayed.{Replayed}
use Rattle.replay.specs.Log.{all_up, down_by, check_log, no_event, GoodAt}
use Rattle.replay.specs.Replays.{Lowest, lowest_from, lowest_of, check_replay}
use Rattle.replay.specs.Answers.{replay_answer, replay_outcome}
use Rattle.replay.proofs.Logs.{log-accepted, accepted-log, log-earlier, log-bad, down-next}
use Rattle.replay.proofs.Meaning.{lowest-first}
use Rattle.promises.proofs.Says.{not-both, says}
use Rattle.promises.proofs.Fails.{Fails, nodes-fail}
use Rattle.promises.proofs.RequestC.{at-most-kept}

-- what the answer says is what the check says: the lowest number and the event, the number alone, or the refusal's number and place
abbrev pub values : Lowest → List ℕ
values found = found.number ∷ only found.event
  where
    only : Option ℕ → List ℕ
    only none = []
    only (some event) = event ∷ []

pub l-answer : (c : Checked Lowest) → replay_outcome (replay_answer c) ≡ outcome values c
l-answer (accepted found) = go found.event
  where
    go : (event : Option ℕ) → let found : Lowest = record { number = found.number; event = event } in
        replay_outcome (replay_answer (accepted found)) ≡ outcome values (accepted found)
    go none = refl
    go (some event) = refl
l-answer (refused e) = refl

-- The nodes that are down after event t of a log, "with all nodes up at first".
abbrev pub down_at : (log : List Event) (t : ℕ) → ℕ → Bool
down_at log t = down_by all_up (take (suc t) log)

-- before the first event all nodes are up; after event t its node is as the event says, and every other node is as it was before
pub l-down-first : (log : List Event) (v : ℕ) → down_by all_up (take 0 log) v ≡ false
unfolding down_by
l-down-first log v = refl

pub l-down-node : (log : List Event) (t : ℕ) → t < length log → down_at log t (get_or log t no_event).node.0 ≡ (get_or log t no_event).down
l-down-node log t lt = rw (down-next all_up log t lt, eq-eqb (get_or log t no_event).node.0 (get_or log t no_event).node.0 refl) refl

pub l-down-others : (log : List Event) (t v : ℕ) → t < length log → (v ≡ (get_or log t no_event).node.0 → ⊥)
    → down_at log t v ≡ down_by all_up (take t log) v
l-down-others log t v lt other = rw (down-next all_up log t lt, ne_eqb v (get_or log t no_event).node.0 other) refl

-- What is promised of a call on an accepted placement of which m can fail, n nodes or (n) g feeders, and whose b records are `rows` as
-- lists of these, and a log that is not empty, whose events are all good, that answered `given`.
pub record ReplayKept (m : ℕ) (rows : List (List ℕ)) (s k figure : ℕ) (log : List Event) (given : Replayed) : Type 0 where
  pub number : ℕ
  pub event : ℕ
  pub answered : replay_outcome given ≡ result (number ∷ event ∷ [])
  -- "the lowest number of usable records": of the b records no event leaves fewer usable
  pub lowest : (t : ℕ) → t < length log → number ≤ usable s rows (down_at log t)
  -- "and the first event after which it stood": after this event there were so many, and after every one before it more
  pub inside : event < length log
  pub stood : usable s rows (down_at log event) ≡ number
  pub first-stood : (t : ℕ) → t < event → number < usable s rows (down_at log t)
  -- "After every event with at most k nodes down, usable records are at least the figure."
  pub at_least : (t : ℕ) → t < length log → count (down_at log t) (up_to m) ≤ k
      → figure ≤ usable s rows (down_at log t)

module _ (bytes : List ℕ) (log : List Event) (given : Replayed) (done : given ≡ replay_answer (check_replay bytes log)) where
  -- the same in the terms of the accepted placement
  log-checked : {kind n r s k b figure first m : ℕ} {rows : List (List ℕ)} (fails : Fails bytes kind n r s k b figure first m rows)
      (c : Checked Unit) → check_log m log ≡ c
      → replay_outcome given ≡ replay_outcome (replay_answer (c >>= λ _. accepted (lowest_of fails.told.file.content log)))
  unfolding check_replay check_placement
  log-checked fails c is =
      ap replay_outcome done
      ∙ rw (fails.told.reads, fails.units-are, is) refl

  -- whatever can fail
  module _ {kind n r s k b figure first m : ℕ} {rows : List (List ℕ)} (fails : Fails bytes kind n r s k b figure first m rows) where
    pub replay-kept : ((t : ℕ) → t < length log → GoodAt m log t) → 1 ≤ length log → ReplayKept m rows s k figure log given
    unfolding lowest_of
    replay-kept good some-event =
        let y = fails.told in
        let p = y.file.content in
        let by_rows : usable p.s (unit_rows p) ≡ usable s rows = λ i failed. fails.leaves failed i in
        let low = lowest-first (usable s rows) p.b all_up log some-event in
        let same : lowest_of p log ≡ record { number = usable s rows (down_at log low.0); event = some low.0 } =
        rw by_rows low.1.1 in
        let is = log-checked fails (accepted tt) (log-accepted m log good) in
        record {
          number = usable s rows (down_at log low.0);
          event = low.0;
          answered = is ∙ ap (λ found. replay_outcome (replay_answer (accepted found))) same;
          lowest = low.1.0.least;
          inside = low.1.0.inside;
          stood = refl;
          first-stood = low.1.0.first;
          at_least = λ t lt few. at-most-kept fails (count (down_at log t) (up_to m)) (down_at log t) few refl;
        }

    pub replay-never-lower : ((t : ℕ) → t < length log → GoodAt m log t) → 1 ≤ length log
        → ((t : ℕ) → t < length log → b ≤ usable s rows (down_at log t))
        → replay_outcome given ≡ result (b ∷ 0 ∷ [])
    replay-never-lower good some-event all =
        let kept = replay-kept good some-event in
        let size = fails.size in
        let number_is : kept.number ≡ b =
        omega (arith, all kept.event kept.inside, kept.stood, usable-most s rows (down_at log kept.event)) in
        let event-is : kept.event ≡ 0 = at_first kept number_is in
        kept.answered ∙ rw (number_is, event-is) refl
      where
        at_first : (kept : ReplayKept m rows s k figure log given) → kept.number ≡ b → kept.event ≡ 0
        at_first kept is = go kept.event refl
          where
            go : (t : ℕ) → kept.event ≡ t → kept.event ≡ 0
            go zero q = q
            go (suc t) q = absurd (omega (
              arith,
              fails.size,
              kept.first-stood 0 (omega arith),
              usable-most s rows (down_at log 0),
            ))

    pub replay-accepted : {values : List ℕ} → replay_outcome given ≡ result values → (t : ℕ) → t < length log → GoodAt m log t
    replay-accepted {values} answered = go (check_log m log) refl
      where
        go : (c : Checked Unit) → check_log m log ≡ c → (t : ℕ) → t < length log → GoodAt m log t
        go (accepted x) is = accepted-log m log is
        go (refused why) is = absurd (not-both (sym (log-checked fails (refused why) is) ∙ answered))

    pub replay-earlier : (t : ℕ) → suc t < length log → ((u : ℕ) → u ≤ t → GoodAt m log u)
        → (get_or log (suc t) no_event).time < (get_or log t no_event).time → replay_outcome given ≡ refusal 19 (suc t)
    replay-earlier t lt good earlier = log-checked fails (refused (EarlierEvent (suc t))) (log-earlier m log t lt good earlier)

    pub replay-bad-event : (t : ℕ) → t < length log → ((u : ℕ) → u < t → GoodAt m log u)
        → ((before : ℕ) → suc before ≡ t → (get_or log before no_event).time ≤ (get_or log t no_event).time)
        → (m ≤ (get_or log t no_event).node.0) ⊎ (down_by all_up (take t log) (get_or log t no_event).node.0 ≡ (get_or log t no_event).down)
        → replay_outcome given ≡ refusal 20 t
    replay-bad-event t lt good in-time bad = log-checked fails (refused (BadEvent t)) (log-bad m log t lt good in-time bad)

  pub l-replay : {kind n r s k b figure first : ℕ} {layers : List ℕ}
      → placement_outcome (placement_checked (read_placement bytes)) ≡ result (kind ∷ n ∷ r ∷ s ∷ k ∷ b ∷ figure ∷ first ∷ layers)
      → (kind ≡ 6 → ⊥)
      → ((t : ℕ) → t < length log → GoodAt n log t) → 1 ≤ length log
      → ReplayKept n (records_in bytes first r b) s k figure log given
  l-replay e nodes = replay-kept (nodes-fail bytes e nodes)

  -- "for an empty log give b and no event", whatever the kind
  pub l-empty : {kind n r s k b figure first : ℕ} {layers : List ℕ}
      → placement_outcome (placement_checked (read_placement bytes)) ≡ result (kind ∷ n ∷ r ∷ s ∷ k ∷ b ∷ figure ∷ first ∷ layers)
      → log ≡ [] → replay_outcome given ≡ result (b ∷ [])
  unfolding check_replay check_placement lowest_of lowest_from
  l-empty {b = b} e empty =
      let y = says bytes e in
      let p = y.file.content in
      let fine = log-accepted (units p) log (λ t lt. absurd (omega (arith, ap length empty))) in
      let none_of : lowest_of p log ≡ record { number = b; event = none } = rw (empty, y.b-is) refl in
      let is : check_replay bytes log ≡ accepted (lowest_of p log) = rw (y.reads, fine) refl in
      ap replay_outcome done ∙ ap (λ c. replay_outcome (replay_answer c)) (is ∙ ap accepted none_of)

  -- a log that is not empty and never lowers the number gives b and event 0: after it b stood
  pub l-never-lower : {kind n r s k b figure first : ℕ} {layers : List ℕ}
      → placement_outcome (placement_checked (read_placement bytes)) ≡ result (kind ∷ n ∷ r ∷ s ∷ k ∷ b ∷ figure ∷ first ∷ layers)
      → (kind ≡ 6 → ⊥)
      → ((t : ℕ) → t < length log → GoodAt n log t) → 1 ≤ length log
      → ((t : ℕ) → t < length log → b ≤ usable s (records_in bytes first r b) (down_at log t))
      → replay_outcome given ≡ result (b ∷ 0 ∷ [])
  l-never-lower e nodes = replay-never-lower (nodes-fail bytes e nodes)

  -- an accepted log: no event is earlier than the one before, its node is below n, and it changes the node's state
  pub l-accepted : {kind n r s k b figure first : ℕ} {layers values : List ℕ}
      → placement_outcome (placement_checked (read_placement bytes)) ≡ result (kind ∷ n ∷ r ∷ s ∷ k ∷ b ∷ figure ∷ first ∷ layers)
      → (kind ≡ 6 → ⊥)
      → replay_outcome given ≡ result values → (t : ℕ) → t < length log → GoodAt n log t
  l-accepted e nodes answered = replay-accepted (nodes-fail bytes e nodes) answered

  -- "The placement is checked, then the whole log": the checker's refusals come first
  pub l-checker-first : {number place : ℕ}
      → placement_outcome (placement_checked (read_placement bytes)) ≡ refusal number place → replay_outcome given ≡ refusal number place
  unfolding check_replay check_placement
  l-checker-first {number} {place} e = go (read_placement bytes) refl e
    where
      go : (c : Checked (Located Placement)) → read_placement bytes ≡ c → placement_outcome (placement_checked c) ≡ refusal number place
          → replay_outcome given ≡ refusal number place
      go (accepted file) is p = absurd (not-both (sym p))
      go (refused why) is p =
          let e : check_replay bytes log ≡ refused why = rw is in
          ap replay_outcome (done ∙ ap replay_answer e) ∙ p

  -- "It refuses with 19 an event earlier than the one before .. the first bad event counts, 19 before 20, its index .. as place": all
  -- events before it are good, and it is earlier than the one before, whatever else it is and whatever comes after it
  pub l-earlier : {kind n r s k b figure first : ℕ} {layers : List ℕ}
      → placement_outcome (placement_checked (read_placement bytes)) ≡ result (kind ∷ n ∷ r ∷ s ∷ k ∷ b ∷ figure ∷ first ∷ layers)
      → (kind ≡ 6 → ⊥)
      → (t : ℕ) → suc t < length log → ((u : ℕ) → u ≤ t → GoodAt n log u)
      → (get_or log (suc t) no_event).time < (get_or log t no_event).time → replay_outcome given ≡ refusal 19 (suc t)
  l-earlier e nodes = replay-earlier (nodes-fail bytes e nodes)

  -- ".. and with 20 a node not below n or a change to the state it is already in"
  pub l-bad-event : {kind n r s k b figure first : ℕ} {layers : List ℕ}
      → placement_outcome (placement_checked (read_placement bytes)) ≡ result (kind ∷ n ∷ r ∷ s ∷ k ∷ b ∷ figure ∷ first ∷ layers)
      → (kind ≡ 6 → ⊥)
      → (t : ℕ) → t < length log → ((u : ℕ) → u < t → GoodAt n log u)
      → ((before : ℕ) → suc before ≡ t → (get_or log before no_event).time ≤ (get_or log t no_event).time)
      → (n ≤ (get_or log t no_event).node.0) ⊎ (down_by all_up (take t log) (get_or log t no_event).node.0 ≡ (get_or log t no_event).down)
      → replay_outcome given ≡ refusal 20 t
  l-bad-event e nodes = replay-bad-event (nodes-fail bytes e nodes)
