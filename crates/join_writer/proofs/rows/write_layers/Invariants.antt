-- `join_writer::rows::write_layers` meets its contract. The loop's invariant: the layers below x stand at the front, and what
-- follows them is as it was. Assumes nothing.
use Prim.Native.Nat.{ℕ}
use mathlib.Core.List.{[]}
use Rattle.layers.specs.declared.Dark.{Dark}
use Rattle.join.specs.declared.Piece.{Piece}
use Rattle.join.specs.declared.Estate.{Estate}
use Rattle.join.specs.Estate.{layers_below}
use Rattle.join.proofs.Laying.{Laying, blocks_from}
use Rattle.join_writer.proofs.rows.write_layers.Given as goal

-- the packs, from what the loop knows of them; it does not look at the third one's nodes, nor at their lists
abbrev pub none : Dark
none = record { count = 0; nodes = [] }

abbrev pub rebuilt : ℕ → Piece → Piece → Piece → Estate
rebuilt r a b c = record { r = r; a = a; b = b; c = c }

abbrev pub invariant-loop-x : goal.invariant-loop-x
invariant-loop-x l =
    let e : Estate = rebuilt l.r (record { nodes = l.before_second; place = l.initial.from_first; layers = l.one_layers; dark = none })
    (record { nodes = l.two_nodes; place = l.initial.from_second; layers = l.two_layers; dark = none }) (record { nodes = 0; place = l.initial.from_third; layers = l.three_layers; dark = none }) in
    Laying l.r (layers_below e l.heads l.first l.second l.third) (blocks_from l.r e.a) (blocks_from l.r e.b) (blocks_from l.r e.c) l.initial.out l.out l.from_first l.from_second
    l.from_third l.at l.x
