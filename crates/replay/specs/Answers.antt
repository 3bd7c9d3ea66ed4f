-- The answer of a replay as a value of the code's enum, and what each case says. Assumes nothing.
use Rattle.std.specs.Prelude.{ℕ, [], ◌∷◌}
use Rattle.std.proofs.Math.Option.{Option, none, some}
use Rattle.refusal.specs.Refusals.{Outcome, result, refusal_outcome}
use Rattle.refusal.specs.Checked.{Checked, accepted, refused}
use Rattle.replay.specs.Replays.{Lowest}
use Rattle.replay.specs.declared.Replayed.{Replayed}
use Rattle.replay.specs.declared.Replayed.TheVariants.{Lowest as Lows, Quiet, Refused}

-- with an event or, where the log is empty, with none
abbrev pub lowest_answer : (number : ℕ) → Option ℕ → Replayed
lowest_answer number none = Quiet number
lowest_answer number (some event) = Lows number event

abbrev pub replay_answer : Checked Lowest → Replayed
replay_answer (accepted found) = lowest_answer found.number found.event
replay_answer (refused e) = Refused e

-- its values are the lowest number and the event, where there is one
abbrev pub replay_outcome : Replayed → Outcome
replay_outcome (Lows number event) = result (number ∷ event ∷ [])
replay_outcome (Quiet number) = result (number ∷ [])
replay_outcome (Refused e) = refusal_outcome e
