-- `replay_moves::go_down` meets its contract. Assumes nothing.
use Prim.Native.Nat.{◌+◌, ◌≤◌}
use mathlib.Core.Path.{sym, ◌∙◌, subst}
use lib.Dec.{lit≤}
use lib.ListN.{length-set}
use Rattle.replay.proofs.Moves.{marked-long, marked-ordered, marked-usable, raising, moved_down}
use Rattle.replay_moves.proofs.go_down.Goals as goal

pub entries_of-entries-requires : goal.entries_of-entries-requires
entries_of-entries-requires c =
    record { in_bounds = subst (λ n. 257 ≤ n) (sym (marked-long c.args.progress c.args.board.now c.args.node.0 c.requires.board_len.0 c.requires.board_len.1 c.requires.counting 1)) (lit≤ tt); node_bound = marked-ordered c.args.progress c.args.board.now c.args.node.0 c.requires.board_len.0 c.requires.board_len.1 c.requires.counting 1 }

pub raise-requires : goal.raise-requires
raise-requires c =
    record { board_len = (marked-long c.args.progress c.args.board.now c.args.node.0 c.requires.board_len.0 c.requires.board_len.1 c.requires.counting 1, c.requires.counting.b-most); raising = raising c.args.progress c.args.board.now c.args.node.0 c.requires.board_len.0 c.requires.board_len.1 c.requires.counting c.requires.node_value c.entries_of-entries.ensures; usable_value = marked-usable c.args.progress c.args.board.now c.args.node.0 c.requires.board_len.0 c.requires.board_len.1 c.requires.counting 1 }

pub shape_of-board : goal.shape_of-board
shape_of-board c =
    c.board-1.given ∙ length-set c.args.board.now (20_737 + c.args.node.0) 1

pub returns : goal.returns
returns c =
    moved_down c.args.progress c.args.board.now c.args.node.0 c.requires.board_len.0 c.requires.board_len.1 c.requires.counting c.requires.node_value _ _ c.entries_of-entries.ensures
    (c.board-1.given ∙ marked-long c.args.progress c.args.board.now c.args.node.0 c.requires.board_len.0 c.requires.board_len.1 c.requires.counting 1)
    c.raise.ensures
