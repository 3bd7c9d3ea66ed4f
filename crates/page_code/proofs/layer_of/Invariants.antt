-- `page_code::layer_of` meets its contract. The loop's invariant: the layer is the one of the layers from x on, counted from the
-- first row of layer x. Assumes nothing.
use mathlib.Core.Path.{◌≡◌}
use lib.ListN.{drop}
use Rattle.page.specs.Page.{layer_of}
use Rattle.page_code.proofs.layer_of.Given as goal

abbrev pub invariant-loop-x : goal.invariant-loop-x
invariant-loop-x l = layer_of 0 l.fn.layers l.initial.left ≡ layer_of l.x (drop l.x l.fn.layers) l.left
