-- `rounds_code::play_accepted` meets its contract: 18, or the number. Assumes nothing.
use Prim.Native.Nat.{◌≤◌}
use mathlib.Core.Path.{◌≡◌, sym, ◌∙◌, ap, subst}
use mathlib.Core.Bool.{true}
use lib.ListN.{length}
use Rattle.lists.proofs.Writing.{take-drop-rest}
use Rattle.packing.specs.Rows.{rows_at}
use Rattle.rounds.specs.Game.{rounds}
use Rattle.rounds.specs.Rounds.{rounds_taken}
use Rattle.rounds.specs.Asked.{RoundsAsked}
use Rattle.rounds.proofs.Checking.{rounds-asked, first-inside, from-refused, from-taken}
use Rattle.rounds_code.proofs.play_accepted.Goals as goal

pub returns-then-not-is_taken : goal.returns-then-not-is_taken
returns-then-not-is_taken c =
    from-refused c.args.bytes.now c.args.head c.args.q (sym c.is_taken.ensures ∙ c.if-not-is_taken.true)

pub slice_bounds-play-count : goal.slice_bounds-play-count
slice_bounds-play-count c = (let inside-here : c.args.head.first ≤ length c.args.bytes.now = first-inside c.args.bytes.now c.args.head c.args.q c.requires in inside-here)

pub slice_bounds-play-start : goal.slice_bounds-play-start
slice_bounds-play-start c = (let inside-here : c.args.head.first ≤ length c.args.bytes.now = first-inside c.args.bytes.now c.args.head c.args.q c.requires in inside-here)

pub play-number-requires : goal.play-number-requires
play-number-requires c =
    subst (λ rows. RoundsAsked rows c.args.head c.args.q) (sym (take-drop-rest c.args.bytes.now c.args.head.first))
    (rounds-asked c.args.bytes.now c.args.head c.args.q c.requires ((let taken-here : rounds_taken c.args.head.n c.args.head.b c.args.q ≡ true = sym c.is_taken.ensures ∙ c.if-not-is_taken.false in taken-here)))

pub returns : goal.returns
returns c =
    from-taken c.args.bytes.now c.args.head c.args.q ((let taken-here : rounds_taken c.args.head.n c.args.head.b c.args.q ≡ true = sym c.is_taken.ensures ∙ c.if-not-is_taken.false in taken-here))
    (c.play-number.ensures
    ∙ ap (λ rows. rounds c.args.head.n c.args.head.s (rows_at c.args.head.r c.args.head.b rows) c.args.q) (take-drop-rest c.args.bytes.now c.args.head.first))
