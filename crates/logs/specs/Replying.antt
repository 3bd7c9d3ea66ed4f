-- What `replay` prints. Assumes nothing.
use Rattle.std.specs.Prelude.{ℕ, cond, List, [], ◌∷◌, eqb}
use Rattle.refusal.specs.Checked.{Checked, accepted, refused}
use Rattle.placement.specs.Placement.{Placement, check_placement}
use Rattle.report.specs.Programs.{refused_line}
use Rattle.text.specs.declared.TextRefusal.TheVariants.{Arguments}
use Rattle.replies.specs.Lines.{numbers_line, text_line}
use Rattle.replay.specs.declared.Replayed.{Replayed}
use Rattle.replay.specs.declared.Replayed.TheVariants.{Lowest, Quiet, Refused}
use Rattle.replay.specs.Replays.{check_replay}
use Rattle.replay.specs.Answers.{replay_answer}
use Rattle.logs.specs.Reading.{LogRead, events, unread, read_log}

-- "the lowest number of usable records and the first event after which it stood; for an empty log .. b and no event": `5 2`, or `9`
abbrev pub answer_line : Replayed → List ℕ
answer_line (Lowest number event) = numbers_line number (event ∷ [])
answer_line (Quiet number) = numbers_line number []
answer_line (Refused e) = refused_line e

-- "The placement is checked, then the whole log": its text, then its events
abbrev pub replayed : Checked Placement → (placement : List ℕ) → LogRead → List ℕ
replayed (refused e) placement read = refused_line e
replayed (accepted p) placement (unread e) = text_line e
replayed (accepted p) placement (events log) = answer_line (replay_answer (check_replay placement log))

unfoldable pub replay_text : (log placement : List ℕ) → List ℕ
replay_text log placement = replayed (check_placement placement) placement (read_log log)

-- with a log in the one file that is named, and a placement on standard input; with no name, or more, it says how many it takes
unfoldable pub replay_reply : (named : ℕ) (log placement : List ℕ) → List ℕ
replay_reply named log placement = cond (eqb named 1) (replay_text log placement) (text_line (Arguments 1))
