-- `certify_most::choose_layer` meets its contract. The loop's invariant: `best` is the choice of the layers below x. Assumes nothing.
use mathlib.Core.Path.{◌≡◌}
use Rattle.packing.specs.Rows.{rows_at}
use Rattle.certify.specs.Answers.{choice_below}
use Rattle.certify_most.proofs.choose_layer.Given as goal

abbrev pub invariant-loop-x : goal.invariant-loop-x
invariant-loop-x l = l.best ≡ choice_below l.order (rows_at l.r l.order.b l.rows) l.x
