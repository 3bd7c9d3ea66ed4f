-- `export_walk::start_of` meets its contract. Assumes nothing.
use mathlib.Core.Path.{sym, ◌∙◌, ap}
use mathlib.Core.Bool.{Bool, cond}
use Rattle.walk.specs.RowWalk.{row_start}
use Rattle.export_walk.proofs.start_of.Goals as goal

pub returns-then-has_row : goal.returns-then-has_row
unfolding row_start
returns-then-has_row c =
    ap (λ (t : Bool). cond t c.args.place.at 0) (sym c.if-has_row.true ∙ c.has_row.ensures)

pub returns-else-has_row : goal.returns-else-has_row
unfolding row_start
returns-else-has_row c =
    ap (λ (t : Bool). cond t c.args.place.at 0) (sym c.if-has_row.false ∙ c.has_row.ensures)
