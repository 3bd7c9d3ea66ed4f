-- `walk_rows::rows::row_at` meets its contract: the part that `has_row` found, or an empty one. Assumes nothing.
use native.Mathlib.Omega.{arith}
use mathlib.Core.Path.{refl, sym, ◌∙◌}
use Rattle.walk.proofs.Steps.{row_within, part-some, part_end}
use Rattle.walk_rows.proofs.rows.row_at.Goals as goal

pub overflow_add-result : goal.overflow_add-result
overflow_add-result c = omega (arith, (row_within c.args.bytes.now _ ((sym c.has_row.ensures ∙ c.if-has_row.true))))

pub slice_bounds-result-end : goal.slice_bounds-result-end
slice_bounds-result-end c = omega (arith, (row_within c.args.bytes.now _ ((sym c.has_row.ensures ∙ c.if-has_row.true))))

pub returns-then-has_row : goal.returns-then-has_row
returns-then-has_row c = part-some c.args.bytes _ _ ((sym c.has_row.ensures ∙ c.if-has_row.true)) refl refl refl

pub returns-else-has_row : goal.returns-else-has_row
returns-else-has_row c =
    part_end c.args.bytes _ _ (sym c.has_row.ensures ∙ c.if-has_row.false) refl refl refl
