use Prim.Native.Nat.{◌*◌}
use native.Mathlib.Nat.{mul-le-mul_right}
use native.Mathlib.Omega.{arith}
use mathlib.Core.Path.{◌≡◌, sym, ◌∙◌, ap}
use lib.ListN.{length}
use borrow.Author.Rules.{rules}
use Rattle.rows_code.proofs.Marks.{marks-within, length-marks_of, rows_more}
use Rattle.rows_code.proofs.sixteen.past_sixteens.Goals as goal

pub overflow_mul-at : goal.overflow_mul-at
overflow_mul-at c =
    omega (arith, mul-le-mul_right c.args.r c.requires.start_le_c)

pub loop-j-init : goal.loop-j-init
loop-j-init c = (c.requires.start_le_c, search rules, c.requires.all)

pub all_below-requires : goal.all_below-requires
all_below-requires c =
    let a = c.args in
    marks-within a.r a.c 16 c.loop-j.j c.loop-j.at a.rows.now a.marks.now c.requires.r_nonzero c.requires.r_in_bounds c.requires.marks_value
    c.loop-j.invariant.1 c.loop-j-test.true

pub returns-then-not-all_below : goal.returns-then-not-all_below
returns-then-not-all_below c = let inv = c.loop-j.invariant in record { upper_bound = inv.0; all_2 = inv.2 }

pub overflow_add-at : goal.overflow_add-at
overflow_add-at c =
    let a = c.args in
    let more = c.loop-j-test.true in
    omega (
      arith,
      marks-within a.r a.c 16 c.loop-j.j c.loop-j.at a.rows.now a.marks.now c.requires.r_nonzero c.requires.r_in_bounds c.requires.marks_value
          c.loop-j.invariant.1 more,
    )

pub loop-j-preserved : goal.loop-j-preserved
loop-j-preserved c =
    let a = c.args in
    let more = c.loop-j-test.true in
    let within = marks-within a.r a.c 16 c.loop-j.j c.loop-j.at a.rows.now a.marks.now c.requires.r_nonzero c.requires.r_in_bounds c.requires.marks_value
    c.loop-j.invariant.1 more in
    let marked : length a.marks.now ≡ 16 * a.r = ap length c.requires.marks_value ∙ length-marks_of a.r 16 in
    let fine = sym c.all_below.ensures ∙ c.if-not-all_below.false in (
      omega arith,
      omega arith,
      rows_more a.n c.top_of-top.result c.top_of-top.ensures a.rows.now a.marks.now a.r 16 c.loop-j.j c.requires.marks_value (omega arith)
          (rw c.loop-j.invariant.1 at fine) c.loop-j.invariant.2,
    )

pub returns : goal.returns
returns c = let inv = c.loop-j.invariant in record { upper_bound = inv.0; all_2 = inv.2 }
