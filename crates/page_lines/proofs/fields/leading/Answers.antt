-- `page_lines::fields::leading` meets its contract. Assumes nothing.
use Prim.Native.Nat.{◌+◌, ◌%◌}
use mathlib.Core.Path.{refl, sym, ap}
use mathlib.Core.Bool.{cond}
use borrow.Author.Tests.{eq-eqb, ne_eqb}
use Rattle.page_lines.proofs.fields.leading.Goals as goal

pub returns-then-tenths-eq0 : goal.returns-then-tenths-eq0
returns-then-tenths-eq0 c = sym (ap (λ t. cond t 32 (48 + c.args.tenths % 10)) (eq-eqb c.args.tenths 0 c.if-tenths-eq0.true))

pub returns : goal.returns
returns c = rw (ne_eqb c.args.tenths 0 c.if-tenths-eq0.false) refl
