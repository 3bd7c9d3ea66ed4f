-- `replay_moves::change` meets its contract. Assumes nothing.
use mathlib.Core.Path.{sym}
use Rattle.replay.proofs.Moves.{moved_as}
use Rattle.replay_moves.proofs.change.Goals as goal

pub go_down-requires : goal.go_down-requires
go_down-requires c =
    record { board_len = c.requires.board_len; counting = c.requires.counting; node_value = c.requires.node_value.0 c.if-down.true }

pub shape_of-board-then-down : goal.shape_of-board-then-down
shape_of-board-then-down c = c.board-1.given

pub returns-then-down : goal.returns-then-down
returns-then-down c =
    moved_as (sym c.if-down.true) c.go_down.ensures

pub come_up-requires : goal.come_up-requires
come_up-requires c =
    record { board_len = c.requires.board_len; counting = c.requires.counting; node_value = c.requires.node_value.1 c.if-down.false }

pub shape_of-board : goal.shape_of-board
shape_of-board c = c.board-2-1.given

pub returns : goal.returns
returns c =
    moved_as (sym c.if-down.false) c.come_up.ensures
