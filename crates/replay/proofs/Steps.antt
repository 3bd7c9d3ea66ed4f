-- An event more: it is passed over, refused, or replayed. Assumes nothing.
use Prim.Native.Nat.{ℕ, suc, ◌≤◌, ◌<◌}
use Rattle.std.specs.Prelude.{Ok, Err}
use native.Mathlib.Omega.{arith}
use mathlib.Core.Path.{◌≡◌, refl, sym, ◌∙◌, ap, subst}
use mathlib.Core.Bool.{Bool, true, false, cond, not, ◌&&◌}
use mathlib.Core.List.{List}
use lib.Dec.{T, leb, ltb}
use borrow.Author.Tests.{ltb-true, lt-ltb, le-ltb, leb-true, le-leb, lt-leb}
use Rattle.refusal.specs.declared.Refusal.{Refusal}
use Rattle.refusal.specs.declared.Refusal.TheVariants.{EarlierEvent, BadEvent}
use Rattle.refusal.specs.Checked.{Checked, accepted, refused, ◌>>=◌, require, verdict}
use Rattle.replay.specs.declared.Event.{Event}
use Rattle.replay.specs.declared.Progress.{Progress}
use Rattle.replay.specs.declared.Replayed.{Replayed}
use Rattle.replay.specs.declared.Replayed.TheVariants.{Lowest, Quiet, Refused}
use Rattle.replay.specs.Log.{changes, check_event}
use Rattle.replay.specs.Board.{lowered_to, one_pass, index_of, down_of, value_by, running, Counting, Standing, Stepped, Moved}

good-accepted : (m : Checked Unit) → Ok tt ≡ verdict m → m ≡ accepted tt
good-accepted (accepted x) e = refl
good-accepted (refused why) e = absurd (let z : ◌≡◌ {A = ℕ} 0 1 = cc in omega arith)

refused-is : (m : Checked Unit) {why : Refusal} → Err why ≡ verdict m → m ≡ refused why
refused-is (accepted x) e = absurd (let z : ◌≡◌ {A = ℕ} 0 1 = cc in omega arith)
refused-is (refused e) why = cc

-- both tests of an event pass
both-pass : (a b : Bool) (x y : Refusal) → Ok tt ≡ verdict (require a x >>= λ _. require b y) → (a ≡ true) × (b ≡ true)
both-pass true true x y e = (refl, refl)
both-pass true false x y e = absurd (let z : ◌≡◌ {A = ℕ} 0 1 = cc in omega arith)
both-pass false b x y e = absurd (let z : ◌≡◌ {A = ℕ} 0 1 = cc in omega arith)

and_both : (a b : Bool) → a && b ≡ true → (a ≡ true) × (b ≡ true)
and_both true true e = (refl, refl)
and_both true false e = absurd (let z : ◌≡◌ {A = ℕ} 0 1 = cc in omega arith)
and_both false b e = absurd (let z : ◌≡◌ {A = ℕ} 0 1 = cc in omega arith)

-- what a good event is
pub record GoodEvent (n : ℕ) (down : ℕ → Bool) (e : Event) : Type 0 where
  pub below : e.node.0 < n
  pub was-up : e.down ≡ true → down e.node.0 ≡ false
  pub was-down : e.down ≡ false → down e.node.0 ≡ true

pub good-event : (n i time : ℕ) (down : ℕ → Bool) (e : Event) → Ok tt ≡ verdict (check_event n i time down e) → GoodEvent n down e
good-event n i time down e g =
    let passed = both-pass (leb time e.time) (ltb e.node.0 n && changes down e) (EarlierEvent i) (BadEvent i) g in
    let both = and_both (ltb e.node.0 n) (changes down e) passed.1 in
    record {
      below = ltb-true e.node.0 n both.0;
      was-up = up e.down (down e.node.0) both.1;
      was-down = is_down e.down (down e.node.0) both.1;
    }
  where
    up : (d was : Bool) → cond d (not was) was ≡ true → d ≡ true → was ≡ false
    up true true h t = absurd (let z : ◌≡◌ {A = ℕ} 0 1 = cc in omega arith)
    up true false h t = refl
    up false was h t = absurd (let z : ◌≡◌ {A = ℕ} 0 1 = cc in omega arith)

    is_down : (d was : Bool) → cond d (not was) was ≡ true → d ≡ false → was ≡ true
    is_down true was h t = absurd (let z : ◌≡◌ {A = ℕ} 0 1 = cc in omega arith)
    is_down false was h t = h

pub in-time-event : (n i time : ℕ) (down : ℕ → Bool) (e : Event) → Ok tt ≡ verdict (check_event n i time down e) → time ≤ e.time
in-time-event n i time down e g =
    leb-true time e.time (both-pass (leb time e.time) (ltb e.node.0 n && changes down e) (EarlierEvent i) (BadEvent i) g).0

pub not-true : (b : Bool) → not b ≡ true → b ≡ false
not-true true e = sym e
not-true false e = refl

pub not-false : (b : Bool) → not b ≡ false → b ≡ true
not-false true e = refl
not-false false e = sym e

-- the code's tests give the check's verdict
module _ (n i time : ℕ) (down : ℕ → Bool) (e : Event) where
  pub event-earlier : e.time < time → Err (EarlierEvent i) ≡ verdict (check_event n i time down e)
  event-earlier h = rw (lt-leb time e.time h) refl

  module _ (in-time : time ≤ e.time) where
    pub event-outside : n ≤ e.node.0 → Err (BadEvent i) ≡ verdict (check_event n i time down e)
    event-outside h = rw (le-leb time e.time in-time, le-ltb e.node.0 n h) refl

    module _ (inside : e.node.0 < n) where
      pub event-idle : changes down e ≡ false → Err (BadEvent i) ≡ verdict (check_event n i time down e)
      event-idle h = rw (le-leb time e.time in-time, lt-ltb e.node.0 n inside, h) refl

      pub event-fine : changes down e ≡ true → Ok tt ≡ verdict (check_event n i time down e)
      event-fine h = rw (le-leb time e.time in-time, lt-ltb e.node.0 n inside, h) refl

-- the answer so far after one event more
pub lowered-less : (number i low j : ℕ) → number < low → Lowest number i ≡ lowered_to number i (Lowest low j)
lowered-less number i low j h = rw (lt-ltb number low h) refl

pub lowered-not : (number i low j : ℕ) → low ≤ number → Lowest low j ≡ lowered_to number i (Lowest low j)
lowered-not number i low j h = rw (le-ltb number low h) refl

lowered-running : (number i : ℕ) (answer : Replayed) → running answer ≡ true → running (lowered_to number i answer) ≡ true
lowered-running number i (Lowest low j) h = go (ltb number low)
  where
    go : (t : Bool) → running (cond t (Lowest number i) (Lowest low j)) ≡ true
    go true = refl
    go false = refl
lowered-running number i (Quiet b) h = refl
lowered-running number i (Refused e) h = h

module _ (p : Progress) (board : List ℕ) (i : ℕ) (e : Event) (standing : Standing p board) where
  -- after a refusal the rest of the log is passed over
  pub step-over : running p.answer ≡ false → Stepped p board i e board p
  step-over h = record { standing = standing; same = λ log. rw h refl }

  module _ (is-running : running p.answer ≡ true) where
    pub step-counting : Counting p board
    step-counting = standing.going (subst T (sym is-running) tt)

    -- the event is refused
    pub step-refused : {why : Refusal} → Err why ≡ verdict (check_event p.n i p.time (down_of board) e)
        → Stepped p board i e board
        (record { n = p.n; s = p.s; b = p.b; time = p.time; usable = p.usable; answer = Refused why })
    unfolding one_pass
    step-refused {why} h =
        record {
          standing = record { long = standing.long; going = λ never. absurd never };
          same = λ log. rw (is-running, refused-is (check_event p.n i p.time (down_of board) e) h) refl;
        }

    -- its node changes its state
    pub step-moved : {board' : List ℕ} {left : ℕ} {low : Replayed} → Ok tt ≡ verdict (check_event p.n i p.time (down_of board) e)
        → Moved p board e.node.0 e.down board' left → low ≡ lowered_to left i p.answer
        → Stepped p board i e board' (record { n = p.n; s = p.s; b = p.b; time = e.time; usable = left; answer = low })
    unfolding one_pass
    step-moved {board'} {left} {low} good m is =
        let c = step-counting in
        let runs : running low ≡ true = ap running is ∙ lowered-running left i p.answer is-running in
        record {
          standing =
              record {
                long = m.long;
                going = λ _.
                    record {
                      is-index = rw m.same_index c.is-index;
                      n-most = c.n-most;
                      b-most = c.b-most;
                      counted = λ j lt. rw m.same_index (m.counted j lt);
                      usable-is = rw m.same_index m.usable-is;
                    };
              };
          same = λ log.
              rw (is-running, good-accepted (check_event p.n i p.time (down_of board) e) good, runs, m.same_index, is, m.usable-is)
              (λ k. one_pass p.n (value_by (index_of board) p.s p.b) (suc i) e.time (λ w. sym (m.down_is w) k) log
              (lowered_to (value_by (index_of board) p.s p.b (λ w. sym (m.down_is w) k)) i p.answer));
        }
