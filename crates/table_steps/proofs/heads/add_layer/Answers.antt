-- `table_steps::heads::add_layer` meets its contract. Assumes nothing.
use Rattle.table_steps.proofs.Head.{layer-late, layer-count, layer-low, layer-high, layer-taken, room_after}
use native.Mathlib.Omega.{arith}
use Rattle.table_steps.proofs.heads.add_layer.Goals as goal

pub returns-then-r-layers : goal.returns-then-r-layers
returns-then-r-layers c = layer-late _ _ _ c.requires _ c.if-r-layers.true

pub returns-then-found-ne1 : goal.returns-then-found-ne1
returns-then-found-ne1 c = layer-count _ _ _ c.requires _ (omega (arith, c.if-r-layers.false)) c.if-found-ne1.true

pub bounds-numbers-count : goal.bounds-numbers-count
bounds-numbers-count c =
    omega (arith, room_after _ _ _ c.requires, c.if-found-ne1.false, c.requires.room)

pub returns-then-mu-lt1 : goal.returns-then-mu-lt1
returns-then-mu-lt1 c =
    layer-low _ _ _ c.requires _ (omega (arith, c.if-r-layers.false)) c.if-found-ne1.false c.if-mu-lt1.true

pub returns-then-mu-gt4096 : goal.returns-then-mu-gt4096
returns-then-mu-gt4096 c =
    layer-high _ _ _ c.requires _ (omega (arith, c.if-r-layers.false)) c.if-found-ne1.false (omega (arith, c.if-mu-lt1.false)) c.if-mu-gt4096.true

pub overflow_add-numbers : goal.overflow_add-numbers
overflow_add-numbers c =
    omega (arith, room_after _ _ _ c.requires, c.if-found-ne1.false, c.requires.room)

pub bounds-numbers-count-2 : goal.bounds-numbers-count-2
bounds-numbers-count-2 c =
    omega (arith, room_after _ _ _ c.requires, c.if-found-ne1.false, c.requires.room)

pub overflow_add-result : goal.overflow_add-result
overflow_add-result c =
    omega (arith, room_after _ _ _ c.requires, c.if-found-ne1.false, c.requires.room)

pub overflow_add-result-2 : goal.overflow_add-result-2
overflow_add-result-2 c =
    omega (arith, c.requires.kept.r-most, c.requires.kept.layers-most)

pub returns : goal.returns
returns c =
    layer-taken _ _ _ c.requires _ (omega (arith, c.if-r-layers.false)) c.if-found-ne1.false (omega (arith, c.if-mu-lt1.false)) (omega (arith, c.if-mu-gt4096.false))
