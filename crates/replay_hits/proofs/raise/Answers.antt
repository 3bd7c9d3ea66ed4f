use native.Mathlib.Omega.{arith}
use mathlib.Core.Path.{◌≡◌, ◌∙◌, subst}
use Rattle.worst.specs.Records.{raised_to}
use Rattle.replay.specs.Board.{index_of, hits_of, Hit}
use Rattle.replay.proofs.Parts.{length-index}
use Rattle.replay.proofs.Hits.{record-small, raise-start, raise-room, raise-left, raise-next}
use Rattle.replay_hits.proofs.raise.Goals as goal

pub loop-seen-init : goal.loop-seen-init
loop-seen-init c =
    raise-start c.args.s c.args.b c.args.board.now c.args.entries c.requires.board_len.0 c.requires.board_len.1 c.requires.raising c.requires.usable_value

pub overflow_add-from : goal.overflow_add-from
overflow_add-from c = omega (arith, c.requires.raising.named.inside, length-index c.args.board.now c.requires.board_len.0)

pub offset_bounds-board-from : goal.offset_bounds-board-from
offset_bounds-board-from c = omega (arith, c.requires.raising.named.inside, length-index c.args.board.now c.requires.board_len.0)

pub bounds-board-from : goal.bounds-board-from
bounds-board-from c = omega (arith, c.requires.raising.named.inside, length-index c.args.board.now c.requires.board_len.0)

pub bounds-board-i : goal.bounds-board-i
bounds-board-i c =
    omega (
      arith,
      record-small c.args.s c.args.b c.args.board.now c.args.entries c.requires.board_len.0 c.requires.board_len.1 c.requires.raising.named _ c.loop-seen.board c.loop-seen.left c.loop-seen.seen c.loop-seen.invariant (c.loop-seen.auto.board ∙ c.requires.board_len.0)
          c.loop-seen-test.true c.from-i.result c.from-i.ensures,
    )

pub bounds-board-i-in-loop-seen : goal.bounds-board-i-in-loop-seen
bounds-board-i-in-loop-seen c =
    omega (
      arith,
      record-small c.args.s c.args.b c.args.board.now c.args.entries c.requires.board_len.0 c.requires.board_len.1 c.requires.raising.named _ c.loop-seen.board c.loop-seen.left c.loop-seen.seen c.loop-seen.invariant (c.loop-seen.auto.board ∙ c.requires.board_len.0)
          c.loop-seen-test.true c.from-i.result c.from-i.ensures,
    )

pub overflow_sub-left : goal.overflow_sub-left
overflow_sub-left c =
    let counted = rw c.from.ensures at c.equal-left.ensures in
    omega (
      arith,
      counted,
      raise-left c.args.s c.args.b c.args.board.now c.args.entries c.requires.board_len.0 c.requires.board_len.1 c.requires.raising c.loop-seen.board c.loop-seen.left c.loop-seen.seen c.loop-seen.invariant (c.loop-seen.auto.board ∙ c.requires.board_len.0)
          c.loop-seen-test.true c.from-i.result c.from-i.ensures,
    )

pub overflow_add-board : goal.overflow_add-board
overflow_add-board c =
    omega (
      arith,
      raise-room c.args.s c.args.b c.args.board.now c.args.entries c.requires.board_len.0 c.requires.board_len.1 c.requires.raising c.loop-seen.board c.loop-seen.left c.loop-seen.seen c.loop-seen.invariant (c.loop-seen.auto.board ∙ c.requires.board_len.0)
          c.loop-seen-test.true c.from-i.result c.from-i.ensures,
    )

pub loop-seen-preserved : goal.loop-seen-preserved
loop-seen-preserved c =
    let counted = rw c.from.ensures at c.equal-left.ensures in
    raise-next c.args.s c.args.b c.args.board.now c.args.entries c.requires.board_len.0 c.requires.board_len.1 c.requires.raising c.loop-seen.board c.loop-seen.left c.loop-seen.seen c.loop-seen.invariant (c.loop-seen.auto.board ∙ c.requires.board_len.0)
    c.loop-seen-test.true c.from-i.result c.from-i.ensures counted

pub returns : goal.returns
returns c =
    let e : c.loop-seen.seen ≡ c.args.entries.count = omega arith in
    subst (λ m. Hit c.args.s c.args.b c.args.board.now (raised_to (index_of c.args.board.now) (hits_of c.args.board.now c.args.b) c.args.entries.from m) c.loop-seen.board c.loop-seen.left) e
    c.loop-seen.invariant
