use native.Mathlib.Omega.{arith}
use mathlib.Core.Path.{refl, ap, ◌∙◌}
use lib.ListN.{set, get_or, length-set}
use borrow.Author.Rules.{rules}
use Rattle.lists.proofs.Writing.{set-take-append-drop, take-append-drop-all}
use Rattle.export_answers.proofs.put_bytes.Goals as goal

pub loop-place-init : goal.loop-place-init
loop-place-init c = (refl, refl)

pub loop-place-preserved : goal.loop-place-preserved
loop-place-preserved c =
    let turn = c.loop-place-test.true in (
      simp length-set c.loop-place.invariant.0,
      rw c.from.ensures
          (ap (λ now. set now c.loop-place.place (get_or c.args.bytes.now c.loop-place.place 0)) c.loop-place.invariant.1
          ∙ set-take-append-drop c.args.bytes.now c.args.answer.now c.loop-place.place 0 turn (omega arith)),
    )

pub returns : goal.returns
returns c =
    c.loop-place.invariant.1 ∙ take-append-drop-all c.args.bytes.now c.args.answer.now c.loop-place.place (omega arith)
