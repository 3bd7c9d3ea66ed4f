use Prim.Native.Nat.{◌+◌, ◌*◌}
use native.Mathlib.Nat.{sub-zero, zero-mul}
use native.Mathlib.Omega.{arith}
use mathlib.Core.Path.{◌≡◌, refl, sym, ◌∙◌}
use borrow.Author.Rules.{rules}
use Rattle.packing.specs.Rows.{rows_at}
use Rattle.packing.proofs.Load.{counts-none}
use Rattle.rows_code.proofs.FirstBad.{bad-past, bad-of-end, bad-of-here, bad-of-next}
use Rattle.rows_load.proofs.Counted.{counted-load, unordered, ordered}
use Rattle.rows_load.proofs.ordered.load_of.Goals as goal

pub loop-j-init : goal.loop-j-init
unfolding rows_at
loop-j-init c = (bad-past c.args.n c.args.r 0 c.args.c c.args.rows.now (omega arith) tt, refl, rw zero-mul counts-none)

pub returns-then-not-row_in_order : goal.returns-then-not-row_in_order
returns-then-not-row_in_order c = let a = c.args in unordered (c.loop-j.invariant.0 ∙ bad-of-here a.n a.r a.c a.rows.now c.loop-j.j c.loop-j-test.true (sym c.row_in_order.ensures ∙ c.if-not-row_in_order.true))

pub loop-j-preserved : goal.loop-j-preserved
loop-j-preserved c = let a = c.args in (
  c.loop-j.invariant.0 ∙ bad-of-next a.n a.r a.c a.rows.now c.loop-j.j c.loop-j-test.true (sym c.row_in_order.ensures ∙ c.if-not-row_in_order.false),
  search rules,
  (let next : (c.loop-j.j + 1) * c.args.r ≡ c.loop-j.j * c.args.r + c.args.r = omega arith in rw next c.count_bytes.ensures),
)

pub returns : goal.returns
returns c = let a = c.args in let last : c.loop-j.j ≡ c.args.c = omega arith in
    ordered
    (c.loop-j.invariant.0 ∙ bad-of-end a.n a.r a.c a.rows.now c.loop-j.j c.loop-j-test.false)
    (λ good. c.largest_count-load.ensures
    ∙ rw (sub-zero 256)
    (counted-load _ 256 _ _ _ _ c.loop-j.invariant.1 (omega arith) good (rw last at c.loop-j.invariant.2)))
