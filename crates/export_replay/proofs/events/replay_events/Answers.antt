-- `export_replay::events::replay_events` meets its contract: the board is empty at first, and the log is run on it. Assumes nothing.
use Prim.Native.Nat.{ℕ}
use mathlib.Core.Path.{sym, ◌∙◌}
use lib.ListN.{length-replicate}
use Rattle.lists.proofs.Parts.{get_d-zeros}
use Rattle.export_replay.proofs.events.replay_events.Goals as goal

pub begin-start-requires : goal.begin-start-requires
begin-start-requires c = (length-replicate {A = ℕ} 25_089 0, λ q. get_d-zeros 25_089 q)

pub run-end-requires : goal.run-end-requires
run-end-requires c =
    record { standing = c.begin-start.ensures.standing; nodes_len = c.requires }

pub returns : goal.returns
returns c =
    c.run-end.ensures ∙ sym (c.begin-start.ensures.same _)
