-- `curve_code::units_of` meets its contract. Assumes nothing.
use mathlib.Core.Path.{refl}
use borrow.Author.Tests.{eq-eqb, ne_eqb}
use Rattle.curve_code.proofs.units_of.Goals as goal

pub returns-then-feeders-eq0 : goal.returns-then-feeders-eq0
returns-then-feeders-eq0 c = rw (eq-eqb _ 0 c.if-feeders-eq0.true) refl

pub returns : goal.returns
returns c = rw (ne_eqb _ 0 c.if-feeders-eq0.false) refl
