-- What `replay` writes is the same for the bytes that it reads: the first 32,768 of the placement, the first 131,072 of the log.
-- Assumes nothing.
use Prim.Native.Nat.{ℕ, ◌≤◌}
use native.Mathlib.Omega.{arith}
use mathlib.Core.Path.{◌≡◌, refl}
use mathlib.Core.List.{List}
use lib.ListN.{length, take}
use lib.Seq.{length-take-le}
use borrow.Author.Tests.{le-ltb}
use Rattle.lists.proofs.Prefixes.{take-elim}
use Rattle.refusal.specs.Checked.{Checked, accepted, refused}
use Rattle.placement.specs.Placement.{Placement, check_placement}
use Rattle.placement.proofs.Prefix.{check_placement-buffer}
use Rattle.replay.specs.Replays.{check_replay}
use Rattle.logs.specs.Reading.{LogRead, events, unread, text_most, read_log}
use Rattle.logs.specs.Replying.{replayed, replay_text, replay_reply}

replayed-same : (placement : List ℕ) (read : LogRead) (o : Checked Placement)
    → replayed o (take 32_768 placement) read ≡ replayed o placement read
unfolding check_replay
replayed-same placement (events log) (refused e) = refl
replayed-same placement (unread f) (refused e) = refl
replayed-same placement (unread f) (accepted p) = refl
replayed-same placement (events log) (accepted p) = rw (check_placement-buffer placement) refl

pub replay-placement-buffer : (named : ℕ) (log placement : List ℕ) → replay_reply named log (take 32_768 placement) ≡ replay_reply named log placement
unfolding replay_reply replay_text
replay-placement-buffer named log placement =
    rw (check_placement-buffer placement, replayed-same placement (read_log log) (check_placement placement)) refl

read_log-buffer : (log : List ℕ) → read_log (take 131_072 log) ≡ read_log log
unfolding read_log
read_log-buffer log = take-elim read_log 131_072 log too-long
  where
    too-long : 131_072 ≤ length log → read_log (take 131_072 log) ≡ read_log log
    too-long long =
        let size = length-take-le 131_072 log long in
        rw (le-ltb (length log) text_most long, le-ltb (length (take 131_072 log)) text_most (omega arith)) refl

pub replay-log-buffer : (named : ℕ) (log placement : List ℕ) → replay_reply named (take 131_072 log) placement ≡ replay_reply named log placement
unfolding replay_reply replay_text
replay-log-buffer named log placement = rw (read_log-buffer log) refl
