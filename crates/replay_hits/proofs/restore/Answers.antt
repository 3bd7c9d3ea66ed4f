use native.Mathlib.Omega.{arith}
use mathlib.Core.Path.{◌≡◌, ◌∙◌, subst}
use Rattle.worst.specs.Records.{lowered_to}
use Rattle.replay.specs.Board.{index_of, hits_of, Hit}
use Rattle.replay.proofs.Parts.{length-index}
use Rattle.replay.proofs.Hits.{record-small, restore-start, restore-some, restore-left, restore-next}
use Rattle.replay_hits.proofs.restore.Goals as goal

pub loop-seen-init : goal.loop-seen-init
loop-seen-init c =
    restore-start c.args.s c.args.b c.args.board.now c.args.entries c.requires.board_len.0 c.requires.board_len.1 c.requires.restoring c.requires.usable_value

pub overflow_add-from : goal.overflow_add-from
overflow_add-from c = omega (arith, c.requires.restoring.named.inside, length-index c.args.board.now c.requires.board_len.0)

pub offset_bounds-board-from : goal.offset_bounds-board-from
offset_bounds-board-from c = omega (arith, c.requires.restoring.named.inside, length-index c.args.board.now c.requires.board_len.0)

pub bounds-board-from : goal.bounds-board-from
bounds-board-from c = omega (arith, c.requires.restoring.named.inside, length-index c.args.board.now c.requires.board_len.0)

pub bounds-board-i : goal.bounds-board-i
bounds-board-i c =
    omega (
      arith,
      record-small c.args.s c.args.b c.args.board.now c.args.entries c.requires.board_len.0 c.requires.board_len.1 c.requires.restoring.named _ c.loop-seen.board c.loop-seen.left c.loop-seen.seen c.loop-seen.invariant (c.loop-seen.auto.board ∙ c.requires.board_len.0)
          c.loop-seen-test.true c.from-i.result c.from-i.ensures,
    )

pub bounds-board-i-in-loop-seen : goal.bounds-board-i-in-loop-seen
bounds-board-i-in-loop-seen c =
    omega (
      arith,
      record-small c.args.s c.args.b c.args.board.now c.args.entries c.requires.board_len.0 c.requires.board_len.1 c.requires.restoring.named _ c.loop-seen.board c.loop-seen.left c.loop-seen.seen c.loop-seen.invariant (c.loop-seen.auto.board ∙ c.requires.board_len.0)
          c.loop-seen-test.true c.from-i.result c.from-i.ensures,
    )

pub overflow_add-left : goal.overflow_add-left
overflow_add-left c =
    let counted = rw c.from.ensures at c.equal-left.ensures in
    omega (
      arith,
      counted,
      restore-left c.args.s c.args.b c.args.board.now c.args.entries c.requires.board_len.0 c.requires.board_len.1 c.requires.restoring c.loop-seen.board c.loop-seen.left c.loop-seen.seen c.loop-seen.invariant (c.loop-seen.auto.board ∙ c.requires.board_len.0)
          c.loop-seen-test.true c.from-i.result c.from-i.ensures counted,
    )

pub overflow_sub-board : goal.overflow_sub-board
overflow_sub-board c =
    omega (
      arith,
      restore-some c.args.s c.args.b c.args.board.now c.args.entries c.requires.board_len.0 c.requires.board_len.1 c.requires.restoring c.loop-seen.board c.loop-seen.left c.loop-seen.seen c.loop-seen.invariant (c.loop-seen.auto.board ∙ c.requires.board_len.0)
          c.loop-seen-test.true c.from-i.result c.from-i.ensures,
    )

pub loop-seen-preserved : goal.loop-seen-preserved
loop-seen-preserved c =
    let counted = rw c.from.ensures at c.equal-left.ensures in
    restore-next c.args.s c.args.b c.args.board.now c.args.entries c.requires.board_len.0 c.requires.board_len.1 c.requires.restoring c.loop-seen.board c.loop-seen.left c.loop-seen.seen c.loop-seen.invariant (c.loop-seen.auto.board ∙ c.requires.board_len.0)
    c.loop-seen-test.true c.from-i.result c.from-i.ensures counted

pub returns : goal.returns
returns c =
    let e : c.loop-seen.seen ≡ c.args.entries.count = omega arith in
    subst (λ m. Hit c.args.s c.args.b c.args.board.now (lowered_to (index_of c.args.board.now) (hits_of c.args.board.now c.args.b) c.args.entries.from m) c.loop-seen.board c.loop-seen.left) e
    c.loop-seen.invariant
