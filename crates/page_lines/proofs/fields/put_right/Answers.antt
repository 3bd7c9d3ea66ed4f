-- `page_lines::fields::put_right` meets its contract: four stores make the field. Assumes nothing.
use lib.ListN.{length-set}
use Rattle.page.proofs.Writing.{field_stored}
use native.Mathlib.Omega.{arith}
use Rattle.page_lines.proofs.fields.put_right.Goals as goal

pub bounds-out-at-2 : goal.bounds-out-at-2
bounds-out-at-2 c = simp length-set (omega (arith, c.requires.1))

pub bounds-out-at-3 : goal.bounds-out-at-3
bounds-out-at-3 c = simp length-set (omega (arith, c.requires.1))

pub bounds-out-at-4 : goal.bounds-out-at-4
bounds-out-at-4 c = simp length-set (omega (arith, c.requires.1))

pub returns : goal.returns
returns c =
    field_stored c.args.out.now c.args.at c.args.v c.requires.0 c.leading.ensures c.leading-2.ensures
    c.leading-3.ensures
