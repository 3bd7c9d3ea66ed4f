use native.Mathlib.Nat.{mul-le-mul}
use native.Mathlib.Omega.{arith}
use borrow.Author.Tests.{lt-ltb, le-ltb}
use Rattle.crowding_sums.proofs.Kept.{keeping_start, kept-few, row_fits, row-looked, room-left, keep-fits, keeping-past, keeping-next, keeping_all}
use Rattle.crowding_sums.proofs.rows.keep_counted.Goals as goal
use Rattle.crowding_sums.proofs.rows.keep_counted.Goals.{then-most_of_row-sets, else-most_of_row-sets}

pub loop-i-init : goal.loop-i-init
loop-i-init c = keeping_start

pub overflow_add-end : goal.overflow_add-end
overflow_add-end c =
    let pre = c.requires in
    omega (arith, row_fits c.loop-i.invariant pre.look.fit.whole pre.room c.loop-i-test.true)

pub slice_bounds-most_of_row-end : goal.slice_bounds-most_of_row-end
slice_bounds-most_of_row-end c =
    let pre = c.requires in
    omega (arith, row_fits c.loop-i.invariant pre.look.fit.whole pre.room c.loop-i-test.true)

pub most_of_row-requires : goal.most_of_row-requires
most_of_row-requires c =
    let pre = c.requires in
    record { d_bound = omega (arith, pre.look.three, pre.look.fit.five); looked = row-looked c.loop-i.invariant pre.look.fit.whole pre.room c.loop-i-test.true pre.look }

pub slice_bounds-copy_bytes-count : goal.slice_bounds-copy_bytes-count
slice_bounds-copy_bytes-count c =
    let pre = c.requires in
    omega (
      arith,
      c.loop-i.invariant.same,
      pre.room,
      room-left c.loop-i.invariant pre.look.fit.whole pre.room c.loop-i-test.true,
    )

pub slice_bounds-copy_bytes-start : goal.slice_bounds-copy_bytes-start
slice_bounds-copy_bytes-start c =
    let pre = c.requires in
    omega (
      arith,
      c.loop-i.invariant.same,
      pre.room,
      room-left c.loop-i.invariant pre.look.fit.whole pre.room c.loop-i-test.true,
    )

pub slice_bounds-copy_bytes-end-then-most_of_row-sets : goal.slice_bounds-copy_bytes-end-then-most_of_row-sets
slice_bounds-copy_bytes-end-then-most_of_row-sets c =
    let pre = c.requires in
    omega (arith, row_fits c.loop-i.invariant pre.look.fit.whole pre.room c.loop-i-test.true)

pub copy_bytes-requires : goal.copy_bytes-requires
copy_bytes-requires c =
    let pre = c.requires in
    keep-fits c.loop-i.invariant pre.look.fit.whole pre.room c.loop-i-test.true

pub overflow_add-to : goal.overflow_add-to
overflow_add-to c =
    let pre = c.requires in
    omega (
      arith,
      room-left c.loop-i.invariant pre.look.fit.whole pre.room c.loop-i-test.true,
      mul-le-mul pre.look.fit.few pre.look.fit.five,
    )

pub overflow_add-m : goal.overflow_add-m
overflow_add-m c =
    omega (arith, kept-few c.loop-i.invariant, c.loop-i-test.true, c.requires.look.fit.few)

pub loop-i-preserved : goal.loop-i-preserved
loop-i-preserved c =
    let pre = c.requires in
    let taken = c.loop-i-test.true in
    elim c.if-most_of_row-sets.branch [
      | then-most_of_row-sets w ↦ rw (w.kept-is, w.m-is, w.to-is)
          (keeping-next c.loop-i.invariant pre.look.fit.whole pre.room taken
          (lt-ltb _ _ (rw c.most_of_row.ensures at w.if-most_of_row-sets.true)) w.copy_bytes.ensures)
      | else-most_of_row-sets w ↦ rw (w.kept-is, w.m-is, w.to-is)
          (keeping-past c.loop-i.invariant pre.look.fit.whole pre.room taken
          (le-ltb _ _ (rw c.most_of_row.ensures at w.if-most_of_row-sets.false)))
    ]

pub shape_of-kept : goal.shape_of-kept
shape_of-kept c = c.loop-i.invariant.same

pub returns : goal.returns
returns c = keeping_all c.loop-i.invariant c.requires.look.fit.whole c.loop-i-test.false
