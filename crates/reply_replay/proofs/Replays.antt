-- The line of `replay`, from what was read of the log and what the calls answer. Assumes nothing.
use Prim.Native.Nat.{ℕ, ◌≤◌}
use Rattle.std.specs.Prelude.{Ok, Err}
use native.Mathlib.Omega.{arith}
use mathlib.Core.Path.{◌≡◌, refl, ap}
use mathlib.Core.List.{List}
use lib.ListN.{take}
use borrow.Author.Tests.{eq-eqb, ne_eqb}
use Rattle.refusal.specs.declared.Refusal.{Refusal}
use Rattle.refusal.specs.Checked.{Checked, accepted, refused}
use Rattle.placement.specs.Placement.{Placement, read_placement, check_placement}
use Rattle.placement.specs.Answers.{placement_checked}
use Rattle.placement.specs.declared.PlacementHead.{PlacementHead}
use Rattle.placement.specs.declared.PlacementCheck.{PlacementCheck}
use Rattle.placement.proofs.Answered.{check-refused, check-accepted}
use Rattle.report.specs.Programs.{refused_line}
use Rattle.text.specs.declared.TextRefusal.{TextRefusal}
use Rattle.text.specs.declared.TextRefusal.TheVariants.{Arguments}
use Rattle.replies.specs.Lines.{text_line}
use Rattle.replay.specs.Replays.{check_replay}
use Rattle.replay.specs.Answers.{replay_answer}
use Rattle.logs.specs.declared.Log.{Log}
use Rattle.logs.specs.Reading.{LogRead, events, unread, LogIn, read_log, events_most}
use Rattle.logs.specs.Replying.{answer_line, replayed, replay_text, replay_reply}

-- a log that was read to its end
module _ (log : List ℕ) (read : Log) (is : LogIn (read_log log) read) where
  module _ (end : read.end ≡ Ok tt) where
    pub whole-most : read.count ≤ events_most
    whole-most = go (read_log log) is
      where
        go : (r : LogRead) → LogIn r read → read.count ≤ events_most
        go (events l) h = h.most
        go (unread e) h = absurd (let z : ◌≡◌ {A = ℕ} 0 1 = cc in omega arith)

    pub whole-text : (placement : List ℕ)
        → replay_text log placement ≡ answer_line (replay_answer (check_replay placement (take read.count read.events)))
    unfolding replay_text check_replay
    whole-text placement = go (read_log log) is (check_placement placement) refl
      where
        go : (r : LogRead) → LogIn r read → (o : Checked Placement) → check_placement placement ≡ o
            → replayed o placement r ≡ answer_line (replay_answer (check_replay placement (take read.count read.events)))
        go (events l) h (accepted p) e = rw h.are refl
        go (events l) h (refused why) e = rw e refl
        go (unread f) h o e = absurd (let z : ◌≡◌ {A = ℕ} 0 1 = cc in omega arith)

  -- one that was refused
  pub unread-text : {e : TextRefusal} → read.end ≡ Err e → (placement : List ℕ)
      → replay_text log placement ≡ replayed (check_placement placement) placement (unread e)
  unfolding replay_text
  unread-text {e} end placement = ap (replayed (check_placement placement) placement) (go (read_log log) is)
    where
      go : (r : LogRead) → LogIn r read → r ≡ unread e
      go (events l) h = let w = h.whole in absurd (let z : ◌≡◌ {A = ℕ} 0 1 = cc in omega arith)
      go (unread f) h = cc

-- the placement's refusal comes first
module _ (placement : List ℕ) (e : TextRefusal) {check : PlacementCheck} (is : check ≡ placement_checked (read_placement placement)) where
  pub unread-refused : {why : Refusal} → check.answer ≡ Err why
      → replayed (check_placement placement) placement (unread e) ≡ refused_line why
  unfolding check_placement
  unread-refused a = rw (check-refused (read_placement placement) is a) refl

  pub unread-accepted : {head : PlacementHead} → check.answer ≡ Ok head
      → replayed (check_placement placement) placement (unread e) ≡ text_line e
  unfolding check_placement
  unread-accepted a = rw (check-accepted (read_placement placement) is a).is-accepted refl

-- one name, or another number of them
module _ (named : ℕ) (log placement : List ℕ) where
  pub named-one : named ≡ 1 → replay_reply named log placement ≡ replay_text log placement
  unfolding replay_reply
  named-one e = rw (eq-eqb named 1 e) refl

  pub named_other : (named ≡ 1 → ⊥) → replay_reply named log placement ≡ text_line (Arguments 1)
  unfolding replay_reply
  named_other h = rw (ne_eqb named 1 h) refl
