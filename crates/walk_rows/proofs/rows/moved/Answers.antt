-- `walk_rows::rows::moved` meets its contract: past the row that `has_row` found, or unmoved at the end. Assumes nothing.
use native.Mathlib.Omega.{arith}
use mathlib.Core.Path.{sym, ◌∙◌}
use Rattle.walk.proofs.Steps.{row_within, step_walk-some, step_walk-end}
use Rattle.walk_rows.proofs.rows.moved.Goals as goal

pub overflow_add-result : goal.overflow_add-result
overflow_add-result c = omega (arith, (row_within c.args.bytes.now _ ((sym c.has_row.ensures ∙ c.if-has_row.true))))

pub overflow_sub-result : goal.overflow_sub-result
overflow_sub-result c = omega (arith, (row_within c.args.bytes.now _ ((sym c.has_row.ensures ∙ c.if-has_row.true))))

pub returns-then-has_row : goal.returns-then-has_row
returns-then-has_row c = sym (step_walk-some _ _ ((sym c.has_row.ensures ∙ c.if-has_row.true)))

pub returns-else-has_row : goal.returns-else-has_row
returns-else-has_row c = sym (step_walk-end _ _ (sym c.has_row.ensures ∙ c.if-has_row.false))
