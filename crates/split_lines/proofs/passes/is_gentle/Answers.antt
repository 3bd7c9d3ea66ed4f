-- `split_lines::passes::is_gentle` meets its contract. Assumes nothing.
use mathlib.Core.Path.{refl, sym, ◌∙◌}
use borrow.Author.Tests.{eqb-true}
use Rattle.lists.specs.Lists.{count, up_to}
use Rattle.split_lines.proofs.passes.is_gentle.Goals as goal

pub returns-then-is_empty : goal.returns-then-is_empty
unfolding count up_to
returns-then-is_empty c = rw (eqb-true _ 0 (sym c.is_empty.ensures ∙ c.if-is_empty.true)) refl
