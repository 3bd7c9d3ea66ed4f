-- `layers_reader::read_layers` meets its contract. The loop's invariant: the layers read so far, in front of what is
-- read from the present place on, are the whole. Assumes nothing.
use Rattle.layers_reader.proofs.ReadLoop.{LayersTurn}
use Rattle.layers_reader.proofs.read_layers.Given as goal

abbrev pub invariant-loop-x : goal.invariant-loop-x
invariant-loop-x l =
    LayersTurn (record { lo = l.lo; hi = l.hi; full = l.full }) l.layers l.room l.bytes l.at l.heads l.next l.rest l.x
