-- `lines::after_word` meets its contract. Assumes nothing.
use Rattle.logs_code.proofs.Slices.{word-inside, after-place}
use native.Mathlib.Omega.{arith}
use Rattle.logs_code.proofs.lines.after_word.Goals as goal

pub slice_bounds-blanks-count : goal.slice_bounds-blanks-count
slice_bounds-blanks-count c = word-inside _ c.solid-end.ensures

pub slice_bounds-blanks-start : goal.slice_bounds-blanks-start
slice_bounds-blanks-start c = word-inside _ c.solid-end.ensures

pub overflow_add-result : goal.overflow_add-result
overflow_add-result c = omega (arith, (after-place _ c.solid-end.ensures c.blanks.ensures).1)

pub returns : goal.returns
returns c = after-place _ c.solid-end.ensures c.blanks.ensures
