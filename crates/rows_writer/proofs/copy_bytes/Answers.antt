use native.Mathlib.Omega.{arith}
use mathlib.Core.Path.{refl, ap, ◌∙◌}
use lib.ListN.{set, get_or, length-set}
use borrow.Author.Rules.{rules}
use Rattle.lists.proofs.Writing.{set-take-append-drop, take-append-drop-all}
use Rattle.rows_writer.proofs.copy_bytes.Goals as goal

pub loop-place-init : goal.loop-place-init
loop-place-init c = (search rules, refl, refl)

pub loop-place-preserved : goal.loop-place-preserved
loop-place-preserved c =
    let a = c.args in
    let turn = c.loop-place-test.true in (
      omega arith,
      simp length-set c.loop-place.invariant.1,
      ap (λ now. set now c.loop-place.place (get_or a.bytes.now c.loop-place.place 0)) c.loop-place.invariant.2
          ∙ set-take-append-drop a.bytes.now a.out.now c.loop-place.place 0 turn (omega arith),
    )

pub returns : goal.returns
returns c =
    let a = c.args in
    c.loop-place.invariant.2 ∙ take-append-drop-all a.bytes.now a.out.now c.loop-place.place (omega arith)
