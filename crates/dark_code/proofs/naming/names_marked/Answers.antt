use mathlib.Core.Path.{sym, ◌∙◌}
use mathlib.Core.Bool.{false}
use lib.ListN.{get_or}
use Rattle.dark_code.proofs.naming.Marks.{any_here, any-further, any-end}
use native.Mathlib.Omega.{arith}
use Rattle.dark_code.proofs.naming.names_marked.Goals as goal

pub bounds-marks-v : goal.bounds-marks-v
bounds-marks-v c = omega (arith, c.type_inv.row c.loop-place.place)

pub returns-then-marks-v : goal.returns-then-marks-v
returns-then-marks-v c =
    sym (c.loop-place.invariant ∙ any_here (λ v. get_or c.args.marks.now v false) c.args.row.now c.loop-place.place (omega arith) (rw c.from-v.ensures at c.if-marks-v.true))

pub loop-place-preserved : goal.loop-place-preserved
loop-place-preserved c =
    c.loop-place.invariant ∙ any-further (λ v. get_or c.args.marks.now v false) c.args.row.now c.loop-place.place (omega arith) (rw c.from-v.ensures at c.if-marks-v.false)

pub returns : goal.returns
returns c =
    sym (c.loop-place.invariant ∙ any-end (λ v. get_or c.args.marks.now v false) c.args.row.now c.loop-place.place (omega arith))
