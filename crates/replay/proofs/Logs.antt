-- Which logs are accepted: those whose events are all good. And which event is refused: the first that is not. Assumes nothing.
use Prim.Native.Nat.{ℕ, zero, suc, ◌+◌, ◌≤◌, ◌<◌}
use native.Mathlib.Omega.{arith}
use native.Mathlib.Nat.{add-zero, zero-add}
use mathlib.Core.Path.{◌≡◌, refl, sym, ◌∙◌, ap, subst}
use mathlib.Core.Logic.{◌⊎◌, inl, inr}
use mathlib.Core.Bool.{Bool, true, false, cond, not, ◌&&◌}
use mathlib.Core.List.{List, [], ◌∷◌}
use lib.ListN.{length, get_or, take}
use lib.Dec.{ltb}
use borrow.Author.Tests.{lt-ltb, le-ltb, le-leb, lt-leb}
use Rattle.refusal.specs.declared.Refusal.{Refusal}
use Rattle.refusal.specs.declared.Refusal.TheVariants.{EarlierEvent, BadEvent}
use Rattle.refusal.specs.Checked.{Checked, accepted, refused, ◌>>=◌, verdict}
use Rattle.replay.specs.declared.Event.{Event}
use Rattle.replay.specs.Log.{all_up, down_after, check_event, check_events, check_log, down_by, no_event, GoodAt}
use Rattle.replay.proofs.Steps.{good-event, in-time-event}

-- the time of a log's last event; `time` where it has none
unfoldable pub time_by : (time : ℕ) → List Event → ℕ
time_by time [] = time
time_by time (e ∷ log) = time_by e.time log

last-time : (time : ℕ) (log : List Event) (t : ℕ) → t < length log → time_by time (take (suc t) log) ≡ (get_or log t no_event).time
unfolding time_by
last-time time [] t lt = absurd (omega arith)
last-time time (e ∷ log) zero lt = refl
last-time time (e ∷ log) (suc t) lt = last-time e.time log t (omega arith)

-- an event that is good where the one before it is at `time` and these nodes are down
pub record GoodHere (n time : ℕ) (down : ℕ → Bool) (e : Event) : Type 0 where
  pub in-time : time ≤ e.time
  pub below : e.node.0 < n
  pub turns : down e.node.0 ≡ not e.down

changed : (d was : Bool) → was ≡ not d → cond d (not was) was ≡ true
changed true was e = rw e refl
changed false was e = e

unchanged : (d was : Bool) → was ≡ d → cond d (not was) was ≡ false
unchanged true was e = rw e refl
unchanged false was e = e

and-false : (a : Bool) → a && false ≡ false
and-false true = refl
and-false false = refl

module _ (n i time : ℕ) (down : ℕ → Bool) (e : Event) where
  pub here-accepted : GoodHere n time down e → check_event n i time down e ≡ accepted tt
  here-accepted g = rw (le-leb time e.time g.in-time, lt-ltb e.node.0 n g.below, changed e.down (down e.node.0) g.turns) refl

  pub accepted-here : check_event n i time down e ≡ accepted tt → GoodHere n time down e
  accepted-here is =
      let g = good-event n i time down e (sym (ap verdict is)) in
      record {
        in-time = in-time-event n i time down e (sym (ap verdict is));
        below = g.below;
        turns = go e.down (down e.node.0) g.was-up g.was-down;
      }
    where
      go : (d was : Bool) → (d ≡ true → was ≡ false) → (d ≡ false → was ≡ true) → was ≡ not d
      go true was up is_down = up refl
      go false was up is_down = is_down refl

  -- "an event earlier than the one before", whatever else it is
  pub here-earlier : e.time < time → check_event n i time down e ≡ refused (EarlierEvent i)
  here-earlier h = rw (lt-leb time e.time h) refl

  -- "a node not below n or a change to the state it is already in"
  pub here-bad : time ≤ e.time → (n ≤ e.node.0) ⊎ (down e.node.0 ≡ e.down) → check_event n i time down e ≡ refused (BadEvent i)
  here-bad h (inl above) = rw (le-leb time e.time h, le-ltb e.node.0 n above) refl
  here-bad h (inr same) = rw (le-leb time e.time h, unchanged e.down (down e.node.0) same, and-false (ltb e.node.0 n)) refl

first-accepted : (m : Checked Unit) (f : Unit {0} → Checked Unit) → (m >>= f) ≡ accepted tt → (m ≡ accepted tt) × (f tt ≡ accepted tt)
first-accepted (accepted x) f e = (refl, e)
first-accepted (refused why) f e = absurd (let z : ◌≡◌ {A = ℕ} 0 1 = cc in omega arith)

-- event t of a log that begins at `time` with these nodes down
abbrev pub GoodFrom : (n time : ℕ) (down : ℕ → Bool) (log : List Event) (t : ℕ) → Type 0
GoodFrom n time down log t = GoodHere n (time_by time (take t log)) (down_by down (take t log)) (get_or log t no_event)

pub events-accepted : (n i time : ℕ) (down : ℕ → Bool) (log : List Event) → ((t : ℕ) → t < length log → GoodFrom n time down log t)
    → check_events n i time down log ≡ accepted tt
unfolding check_events down_by time_by
events-accepted n i time down [] good = refl
events-accepted n i time down (e ∷ log) good =
    rw (here-accepted n i time down e (good 0 (omega arith)))
    (events-accepted n (suc i) e.time (down_after down e) log (λ t lt. good (suc t) (omega arith)))

pub accepted-events : (n i time : ℕ) (down : ℕ → Bool) (log : List Event) → check_events n i time down log ≡ accepted tt
    → (t : ℕ) → t < length log → GoodFrom n time down log t
unfolding check_events down_by time_by
accepted-events n i time down [] is t lt = absurd (omega arith)
accepted-events n i time down (e ∷ log) is zero lt =
    accepted-here n i time down e (first-accepted (check_event n i time down e) (λ _. check_events n (suc i) e.time (down_after down e) log) is).0
accepted-events n i time down (e ∷ log) is (suc t) lt =
    accepted-events n (suc i) e.time (down_after down e) log
    (first-accepted (check_event n i time down e) (λ _. check_events n (suc i) e.time (down_after down e) log) is).1 t (omega arith)

-- "the first bad event counts"
pub first-refused : (n i time : ℕ) (down : ℕ → Bool) (log : List Event) (t : ℕ) (why : Refusal) → t < length log
    → ((u : ℕ) → u < t → GoodFrom n time down log u)
    → check_event n (i + t) (time_by time (take t log)) (down_by down (take t log)) (get_or log t no_event) ≡ refused why
    → check_events n i time down log ≡ refused why
unfolding check_events down_by time_by
first-refused n i time down [] t why lt good is = absurd (omega arith)
first-refused n i time down (e ∷ log) zero why lt good is =
    let here : check_event n i time down e ≡ refused why = ap (λ j. check_event n j time down e) (sym (add-zero i)) ∙ is in
    rw here refl
first-refused n i time down (e ∷ log) (suc t) why lt good is =
    let next : suc i + t ≡ i + suc t = omega arith in
    rw (here-accepted n i time down e (good 0 (omega arith)))
    (first-refused n (suc i) e.time (down_after down e) log t why (omega arith) (λ u less. good (suc u) (omega arith)) (rw next is))

-- no event is earlier than 0, and a later one not than the one before it
time-before : (log : List Event) (t : ℕ) → t < length log → ((u : ℕ) → suc u ≡ t → (get_or log u no_event).time ≤ (get_or log t no_event).time)
    → time_by 0 (take t log) ≤ (get_or log t no_event).time
unfolding time_by
time-before log zero lt h = omega arith
time-before log (suc u) lt h = subst (λ x. x ≤ (get_or log (suc u) no_event).time) (sym (last-time 0 log u (omega arith))) (h u refl)

-- a good event, in the request's words and by what stands before it
pub good-from : (n : ℕ) (log : List Event) (t : ℕ) → t < length log → GoodAt n log t → GoodFrom n 0 all_up log t
good-from n log t lt g = record { in-time = time-before log t lt g.in-time; below = g.below; turns = g.turns }

pub from-good : (n : ℕ) (log : List Event) (t : ℕ) → t < length log → GoodFrom n 0 all_up log t → GoodAt n log t
from-good n log t lt g =
    record {
      in-time = λ before e. subst (λ x. x ≤ (get_or log t no_event).time)
          (ap (λ j. time_by 0 (take j log)) (sym e) ∙ last-time 0 log before (omega arith)) g.in-time;
      below = g.below;
      turns = g.turns;
    }

-- a log is accepted exactly when each of its events is good
pub log-accepted : (n : ℕ) (log : List Event) → ((t : ℕ) → t < length log → GoodAt n log t) → check_log n log ≡ accepted tt
log-accepted n log good = events-accepted n 0 0 all_up log (λ t lt. good-from n log t lt (good t lt))

pub accepted-log : (n : ℕ) (log : List Event) → check_log n log ≡ accepted tt → (t : ℕ) → t < length log → GoodAt n log t
accepted-log n log is t lt = from-good n log t lt (accepted-events n 0 0 all_up log is t lt)

-- the first event that is not good is refused
refused-at : (n : ℕ) (log : List Event) (t : ℕ) (why : Refusal) → t < length log → ((u : ℕ) → u < t → GoodAt n log u)
    → check_event n t (time_by 0 (take t log)) (down_by all_up (take t log)) (get_or log t no_event) ≡ refused why → check_log n log ≡ refused why
refused-at n log t why lt good is =
    first-refused n 0 0 all_up log t why lt (λ u less. good-from n log u (omega arith) (good u less))
    (ap (λ j. check_event n j (time_by 0 (take t log)) (down_by all_up (take t log)) (get_or log t no_event)) (zero-add t) ∙ is)

-- with 19 where it is earlier than the one before
pub log-earlier : (n : ℕ) (log : List Event) (t : ℕ) → suc t < length log → ((u : ℕ) → u ≤ t → GoodAt n log u)
    → (get_or log (suc t) no_event).time < (get_or log t no_event).time → check_log n log ≡ refused (EarlierEvent (suc t))
log-earlier n log t lt good h =
    refused-at n log (suc t) (EarlierEvent (suc t)) lt (λ u less. good u (omega arith))
    (here-earlier n (suc t) (time_by 0 (take (suc t) log)) (down_by all_up (take (suc t) log)) (get_or log (suc t) no_event)
    (subst (λ x. (get_or log (suc t) no_event).time < x) (sym (last-time 0 log t (omega arith))) h))

-- with 20 where it is not earlier, and its node is not below n or in that state already
pub log-bad : (n : ℕ) (log : List Event) (t : ℕ) → t < length log → ((u : ℕ) → u < t → GoodAt n log u)
    → ((before : ℕ) → suc before ≡ t → (get_or log before no_event).time ≤ (get_or log t no_event).time)
    → (n ≤ (get_or log t no_event).node.0) ⊎ (down_by all_up (take t log) (get_or log t no_event).node.0 ≡ (get_or log t no_event).down)
    → check_log n log ≡ refused (BadEvent t)
log-bad n log t lt good in-time bad =
    refused-at n log t (BadEvent t) lt good
    (here-bad n t (time_by 0 (take t log)) (down_by all_up (take t log)) (get_or log t no_event) (time-before log t lt in-time) bad)

-- the states before and after event t: its node is as the event says afterwards, all others are as they were
pub down-next : (down : ℕ → Bool) (log : List Event) (t : ℕ) → t < length log
    → down_by down (take (suc t) log) ≡ down_after (down_by down (take t log)) (get_or log t no_event)
unfolding down_by
down-next down [] t lt = absurd (omega arith)
down-next down (e ∷ log) zero lt = refl
down-next down (e ∷ log) (suc t) lt = down-next (down_after down e) log t (omega arith)
