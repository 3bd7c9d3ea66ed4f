use native.Mathlib.Omega.{arith}
use Rattle.join.proofs.Search.{search-first, search-found, search-next, search-past}
use Rattle.join_mu.proofs.common_multiple.Goals as goal

pub loop-m-init : goal.loop-m-init
loop-m-init c = rw c.max-step.ensures (search-first _ _ c.requires.le_a c.requires.le_b)

pub returns-then-m-other-eq0 : goal.returns-then-m-other-eq0
returns-then-m-other-eq0 c =
    search-found _ _ c.requires.le_a c.requires.le_b c.loop-m.m c.loop-m.invariant (rw c.min-other.ensures at c.if-m-other-eq0.true) (omega arith)

pub loop-m-preserved : goal.loop-m-preserved
loop-m-preserved c =
    rw c.max-step.ensures (search-next _ _ c.requires.le_a c.requires.le_b c.loop-m.m c.loop-m.invariant (rw c.min-other.ensures at c.if-m-other-eq0.false))

pub returns-else-m-other-eq0 : goal.returns-else-m-other-eq0
returns-else-m-other-eq0 c =
    let next = search-next _ _ c.requires.le_a c.requires.le_b c.loop-m.m c.loop-m.invariant (rw c.min-other.ensures at c.if-m-other-eq0.false) in
    search-past _ _ c.requires.le_a c.requires.le_b _ next (omega (arith, c.max-step.ensures))
