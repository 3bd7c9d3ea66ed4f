-- `curve_figures::binomials::next_row` meets its contract, by Pascal's rule. Assumes nothing.
use native.Mathlib.Omega.{arith}
use Rattle.curve.proofs.Binomials.{row_lt, row_next}
use Rattle.curve_figures.proofs.binomials.next_row.Goals as goal

pub overflow_add-result : goal.overflow_add-result
overflow_add-result c =
    omega (arith, row_lt _ c.requires.0 0 (omega arith) (omega arith), row_lt _ c.requires.0 1 (omega arith) (omega arith))

pub overflow_add-result-2 : goal.overflow_add-result-2
overflow_add-result-2 c =
    omega (arith, row_lt _ c.requires.0 1 (omega arith) (omega arith), row_lt _ c.requires.0 2 (omega arith) (omega arith))

pub overflow_add-result-3 : goal.overflow_add-result-3
overflow_add-result-3 c =
    omega (arith, row_lt _ c.requires.0 2 (omega arith) (omega arith), row_lt _ c.requires.0 3 (omega arith) (omega arith))

pub overflow_add-result-4 : goal.overflow_add-result-4
overflow_add-result-4 c =
    omega (arith, row_lt _ c.requires.0 3 (omega arith) (omega arith), row_lt _ c.requires.0 4 (omega arith) (omega arith))

pub overflow_add-result-5 : goal.overflow_add-result-5
overflow_add-result-5 c =
    omega (arith, row_lt _ c.requires.0 4 (omega arith) (omega arith), row_lt _ c.requires.0 5 (omega arith) (omega arith))

pub returns : goal.returns
returns c = row_next _ c.requires.0
