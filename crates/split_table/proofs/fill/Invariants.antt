-- `split_table::fill` meets its contract. The loop's invariant: the lines before line `x` are filled. Assumes nothing.
use Rattle.split.proofs.Filling.{Filling}
use Rattle.split_table.proofs.fill.Given as goal

abbrev pub invariant-loop-x : goal.invariant-loop-x
invariant-loop-x l = Filling l.layers l.order l.x l.initial.work l.work
