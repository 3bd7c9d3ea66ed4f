-- What `replay` prints, by what is met first: the placement's refusal, that of the log's text, that of an event, the answer.
-- Assumes nothing.
use Prim.Native.Nat.{ℕ}
use mathlib.Core.Path.{◌≡◌, refl}
use mathlib.Core.List.{List}
use Rattle.refusal.specs.declared.Refusal.{Refusal}
use Rattle.refusal.specs.Checked.{accepted, refused}
use Rattle.placement.specs.Placement.{Placement, check_placement}
use Rattle.placement.specs.Units.{units}
use Rattle.report.specs.Programs.{refused_line}
use Rattle.text.specs.declared.TextRefusal.{TextRefusal}
use Rattle.replies.specs.Lines.{text_line}
use Rattle.replay.specs.declared.Event.{Event}
use Rattle.replay.specs.Log.{check_log}
use Rattle.replay.specs.Replays.{lowest_of, check_replay}
use Rattle.replay.specs.Answers.{lowest_answer}
use Rattle.logs.specs.Reading.{events, unread, read_log}
use Rattle.logs.specs.Replying.{answer_line, replay_text, replay_reply}

module _ (log placement : List ℕ) where
  pub says-placement : {e : Refusal} → check_placement placement ≡ refused e → replay_reply 1 log placement ≡ refused_line e
  unfolding replay_reply replay_text
  says-placement is = rw is refl

  module _ {p : Placement} (good : check_placement placement ≡ accepted p) where
    pub says-text : {e : TextRefusal} → read_log log ≡ unread e → replay_reply 1 log placement ≡ text_line e
    unfolding replay_reply replay_text
    says-text is = rw (good, is) refl

    module _ {l : List Event} (read : read_log log ≡ events l) where
      pub says-event : {e : Refusal} → check_log (units p) l ≡ refused e → replay_reply 1 log placement ≡ refused_line e
      unfolding replay_reply replay_text check_replay
      says-event is = rw (good, read, good, is) refl

      pub says-lowest : check_log (units p) l ≡ accepted tt
          → replay_reply 1 log placement ≡ answer_line (lowest_answer (lowest_of p l).number (lowest_of p l).event)
      unfolding replay_reply replay_text check_replay
      says-lowest is = rw (good, read, good, is) refl
